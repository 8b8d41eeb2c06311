pub mod Resting
pub mod Calling
pub mod Paying
pub mod Holding
