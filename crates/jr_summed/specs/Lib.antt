pub mod Laws
pub mod Summed
