pub mod Machine
pub mod Words
pub mod Returned
