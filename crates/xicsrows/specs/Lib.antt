pub mod XicsLayout
pub mod Registered
pub mod Tables
