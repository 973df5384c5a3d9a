pub mod Claims
pub mod Demand3
pub mod Anchors
pub mod Demand2
pub mod Special
