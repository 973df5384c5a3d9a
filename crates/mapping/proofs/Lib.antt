pub mod Table
pub mod Counts
pub mod Edits
pub mod Rise
pub mod Meaning
pub mod Sized
pub mod Anchors
