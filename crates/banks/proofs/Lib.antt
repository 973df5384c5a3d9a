pub mod Shapes
pub mod Words
pub mod Anchors
pub mod Fits
