pub mod Lines
pub mod News
pub mod Frames
pub mod Turns
pub mod Refusals
pub mod Gathering
pub mod Exact
pub mod Laws
