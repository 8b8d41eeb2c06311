pub mod Soak
pub mod Laws
