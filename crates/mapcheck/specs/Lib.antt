pub mod Examined
pub mod Reads
