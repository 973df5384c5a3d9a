pub mod Errno
pub mod Answer
pub mod Number
