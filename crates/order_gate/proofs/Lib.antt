mod Lines
pub mod Parts
mod Shares
pub mod Sending
pub mod Answering
mod Turns
pub mod Settling
mod Places
mod Lending
