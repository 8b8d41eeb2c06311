pub mod Taking
pub mod Delivering
pub mod Gathering
