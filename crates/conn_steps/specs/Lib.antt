pub mod Gathered
pub mod Ends
pub mod Settling
pub mod Agreeing
pub mod Taking
