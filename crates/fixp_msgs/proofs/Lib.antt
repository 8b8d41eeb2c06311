pub mod Rows
pub mod Written
pub mod Sizes
pub mod Found
pub mod Payloads
