pub mod Giving
pub mod Going
pub mod Streaming
pub mod Judging
