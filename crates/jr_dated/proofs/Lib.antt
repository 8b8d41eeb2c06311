mod Fronts
pub mod Sizes
pub mod Spelling
pub mod Verdicts
