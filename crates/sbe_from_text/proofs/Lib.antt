pub mod Parts
pub mod Elements
pub mod Messages
pub mod Lined
