pub mod Answering
pub mod Counting
pub mod Histories
pub mod Kept
pub mod Noting
pub mod Reading
pub mod Settling
