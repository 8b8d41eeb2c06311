pub mod Standing
pub mod Acting
pub mod Agreeing
pub mod Falling
pub mod Shutting
pub mod Closing
pub mod Rows
