pub mod Kept
pub mod Told
pub mod Shown
pub mod Gate
