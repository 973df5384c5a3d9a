pub mod Former
pub mod Claim
pub mod Kept
