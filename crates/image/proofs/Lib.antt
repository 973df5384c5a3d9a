pub mod Ready
pub mod Stored
pub mod Text
