pub mod Begun
pub mod Limits
pub mod Doing
pub mod Written
pub mod Told
pub mod RunLemmas
pub mod Turn
pub mod Held
pub mod Frames
pub mod OneClass
mod Outcomes
