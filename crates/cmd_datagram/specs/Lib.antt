pub mod Script
pub mod Messages
pub mod Lines
pub mod Promise
pub mod Delivered
