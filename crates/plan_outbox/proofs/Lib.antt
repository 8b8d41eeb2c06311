mod Agreeing
mod Entries
mod Taking
mod Finding
pub mod Excluding
