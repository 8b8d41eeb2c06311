pub mod Shown
pub mod Words
pub mod Progress
