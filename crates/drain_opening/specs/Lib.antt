pub mod Opening
pub mod Rows
