mod Texts
pub mod Coming
pub mod Making
mod Ending
mod Lines
mod Seats
pub mod Moving
mod Feeders
mod Feeds
mod Counts
mod Marks
pub mod Nothing
