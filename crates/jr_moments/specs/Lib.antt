pub mod Dated
pub mod Laws
