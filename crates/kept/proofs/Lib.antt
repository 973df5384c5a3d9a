pub mod Choice
pub mod Areas
pub mod Parts
pub mod Vcpus
pub mod Bases
pub mod Init
pub mod Answers
pub mod Readings
