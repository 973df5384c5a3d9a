pub mod Tests
pub mod Has
pub mod Differences
pub mod Laws
