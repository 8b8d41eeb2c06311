pub mod Readings
pub mod Ascending
pub mod Unknown
pub mod Kept
