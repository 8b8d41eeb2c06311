pub mod Digits
pub mod Years
