pub mod Mapped
pub mod Commands
pub mod MapRules
pub mod MapWords
pub mod Meaning
