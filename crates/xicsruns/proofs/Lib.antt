pub mod Computed
pub mod Proved
