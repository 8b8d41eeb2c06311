pub mod Words
pub mod Samples
pub mod Seen
