pub mod Resting
pub mod Giving
pub mod Turned
pub mod Fallen
