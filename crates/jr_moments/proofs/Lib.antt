mod Fronts
pub mod Spelling
