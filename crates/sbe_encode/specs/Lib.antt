pub mod Faults
pub mod Blocks
pub mod Writes
pub mod Laws
pub mod ReadsBack
