pub mod Anchors
pub mod Returned
