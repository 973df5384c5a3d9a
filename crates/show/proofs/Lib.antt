pub mod Stored
pub mod Whole
pub mod Claims
