pub mod Negated
pub mod Laws
