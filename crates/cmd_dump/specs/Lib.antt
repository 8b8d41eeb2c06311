pub mod Frames
pub mod Dumped
pub mod Promise
pub mod Progress
