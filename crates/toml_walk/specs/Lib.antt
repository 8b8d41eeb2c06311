pub mod Reading
pub mod Keys
pub mod Values
pub mod Documents
