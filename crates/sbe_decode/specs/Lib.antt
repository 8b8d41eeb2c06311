pub mod Answers
pub mod Shown
pub mod Walks
pub mod Views
