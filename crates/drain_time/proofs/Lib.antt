pub mod Speaking
pub mod Timed
