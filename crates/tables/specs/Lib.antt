pub mod Bytes
pub mod Saved
pub mod Fault
pub mod Restored
