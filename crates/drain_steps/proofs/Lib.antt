pub mod Ranged
pub mod Ranging
pub mod Stepping
pub mod Beating
pub mod Taking
