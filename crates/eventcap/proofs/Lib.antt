pub mod Capped
pub mod Ways
pub mod Saved
pub mod Restored
pub mod Described
pub mod Claim
pub mod NoCap
