pub mod Words
pub mod Run
pub mod Completeness
pub mod Journals
pub mod Moving
