pub mod Kept
pub mod Lost
