pub mod Groups
pub mod Steps
pub mod Commands
pub mod Call
pub mod Signed
