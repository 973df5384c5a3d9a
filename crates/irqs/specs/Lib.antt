pub mod Spots
pub mod Irqs
pub mod Registers
