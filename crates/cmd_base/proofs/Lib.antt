mod Reading
pub mod Giving
