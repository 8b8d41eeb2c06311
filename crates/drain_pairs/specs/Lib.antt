pub mod Pairs
pub mod Keeping
