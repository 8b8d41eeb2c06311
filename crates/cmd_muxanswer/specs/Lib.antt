pub mod Sessions
pub mod Input
pub mod Lines
pub mod Answer
pub mod Promise
pub mod Laws
pub mod Devices
pub mod Progress
