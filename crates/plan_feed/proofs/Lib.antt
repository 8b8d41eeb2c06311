mod Judged
pub mod Lines
mod Parts
