pub mod Answers
pub mod Boxes
pub mod Laws
pub mod Saving
pub mod Restoring
pub mod Explaining
pub mod Anchors
