pub mod Rows
pub mod Built
pub mod Parts
pub mod Facts
pub mod Samples
pub mod Meaning
