pub mod Computed
pub mod Shares
pub mod Ranged
pub mod Written
pub mod Padded
pub mod Whole
