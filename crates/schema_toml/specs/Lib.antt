pub mod Words
pub mod Types
pub mod Messages
pub mod Text
pub mod Faults
