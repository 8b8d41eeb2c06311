pub mod Places
pub mod Reach
pub mod Taken
pub mod Staying
pub mod Delivered
