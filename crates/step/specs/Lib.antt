pub mod Step
pub mod Run
pub mod Tables
pub mod Guests
pub mod Routing
