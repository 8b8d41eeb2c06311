mod Fronts
mod Returns
pub mod Steps
pub mod Streams
mod TextLines
