pub mod Crossing
pub mod Seating
