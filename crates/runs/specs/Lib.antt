pub mod Opening
pub mod Order
pub mod Frames
pub mod Banks
pub mod Limits
pub mod Broken
pub mod Former
pub mod Runs
