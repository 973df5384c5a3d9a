pub mod MapLayout
pub mod Added
pub mod Sizes
