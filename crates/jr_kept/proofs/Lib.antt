pub mod Batches
pub mod Held
pub mod Keeping
pub mod Reading
pub mod Rereading
