pub mod Tables
pub mod Rows
pub mod Chain
pub mod Collections
pub mod Runs
pub mod Itts
pub mod Rising
pub mod Sound
