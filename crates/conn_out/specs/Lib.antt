pub mod Messages
pub mod Projections
pub mod Laws
pub mod Telling
