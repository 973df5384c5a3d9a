pub mod Vcpus
pub mod Bases
pub mod Init
pub mod Needs
