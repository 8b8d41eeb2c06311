pub mod Written
pub mod Levels
