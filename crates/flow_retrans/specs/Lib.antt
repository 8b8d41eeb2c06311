pub mod Requests
pub mod Judging
