pub mod Told
pub mod Grows
