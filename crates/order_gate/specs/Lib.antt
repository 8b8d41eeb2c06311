pub mod Line
pub mod Places
pub mod Reported
pub mod Desks
pub mod Standing
