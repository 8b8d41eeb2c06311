pub mod Rounds
pub mod Starting
