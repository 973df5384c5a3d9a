pub mod Scan
pub mod Way
pub mod Chained
