pub mod Rows
pub mod Given
pub mod Calls
pub mod Deaf
pub mod Sampled
