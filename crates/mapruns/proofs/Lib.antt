pub mod Proved
pub mod Witness
