pub mod Computed
pub mod Routing
