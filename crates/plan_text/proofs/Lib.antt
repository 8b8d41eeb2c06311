mod Adding
pub mod Gifts
mod Steps
pub mod OneReading
