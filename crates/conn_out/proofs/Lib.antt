pub mod Fronts
pub mod Lines
pub mod Others
mod Splits
mod Places
mod Telling
mod GoingOn
