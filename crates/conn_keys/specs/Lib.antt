pub mod Known
pub mod Laws
pub mod Rows
pub mod Samples
pub mod Verdicts
