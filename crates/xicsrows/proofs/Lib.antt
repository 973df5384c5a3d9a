pub mod InPlace
pub mod Search
pub mod Numbers
pub mod Written
pub mod Edited
