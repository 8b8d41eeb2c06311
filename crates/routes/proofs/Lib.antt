pub mod Adding
mod Keys
pub mod Searching
pub mod Standing
