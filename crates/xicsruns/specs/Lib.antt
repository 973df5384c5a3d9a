pub mod XicsRun
pub mod Registering
pub mod Broken
pub mod Words
pub mod Delivering
pub mod XicsRuns
