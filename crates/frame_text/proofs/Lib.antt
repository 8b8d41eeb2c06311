pub mod Applications
pub mod Payloads
pub mod Sessions
