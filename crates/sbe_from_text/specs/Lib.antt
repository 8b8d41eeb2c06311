pub mod Written
pub mod Fronts
