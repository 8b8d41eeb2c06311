pub mod Answers
pub mod Doing
pub mod Keeping
pub mod Sending
pub mod Laws
