pub mod Promise
pub mod Progress
