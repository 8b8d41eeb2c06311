pub mod Identifiers
pub mod Sorted
