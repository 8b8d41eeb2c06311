pub mod Judging
pub mod Giving
