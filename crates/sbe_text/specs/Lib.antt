pub mod Answers
pub mod Held
pub mod Read
pub mod Reading
pub mod Tokens
pub mod Named
pub mod Written
pub mod Wire
