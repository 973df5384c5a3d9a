pub mod Rows
pub mod Apart
pub mod Verdicts
