pub mod Mapping
pub mod Restoring
pub mod Main
pub mod Runs
