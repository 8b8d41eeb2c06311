pub mod Counted
pub mod Judged
