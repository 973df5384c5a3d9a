pub mod Loops
pub mod Overlaps
pub mod Verdicts
