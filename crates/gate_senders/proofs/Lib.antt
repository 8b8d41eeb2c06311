pub mod Keeping
pub mod Entering
pub mod Submitting
pub mod Piecing
pub mod Fetching
