pub mod Counting
pub mod Prefixes
pub mod Reading
pub mod Verdicts
