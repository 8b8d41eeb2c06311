pub mod Interval
pub mod Answered
pub mod Idling
pub mod Opened
