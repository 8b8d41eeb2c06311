pub mod Plan
pub mod Desk
pub mod Standing
