mod Devices
mod Steps
pub mod Fronts
mod Rounds
