pub mod Stood
pub mod Doing
pub mod Agreed
pub mod Filled
pub mod Fallen
pub mod Shut
pub mod Closed
pub mod Sampled
