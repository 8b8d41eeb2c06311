pub mod Taking
mod Unique
