pub mod Rounding
pub mod Begun
