pub mod Counts
pub mod Sizes
pub mod Stored
pub mod Round
pub mod Typed
pub mod InPlace
