pub mod Marking
pub mod Resuming
