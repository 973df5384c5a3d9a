pub mod Device
pub mod Collection
pub mod Event
