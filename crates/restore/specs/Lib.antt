pub mod Parts
pub mod Begun
pub mod Restores
pub mod Both
