pub mod Opening
pub mod Fresh
pub mod Laid
pub mod Migrates
