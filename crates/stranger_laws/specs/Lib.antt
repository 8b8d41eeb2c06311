pub mod Opening
pub mod Replied
pub mod Strangers
pub mod Samples
