mod Ended
mod Calls
pub mod Sealed
