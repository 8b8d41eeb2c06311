mod Lookups
mod Best
mod Walk
mod Queue
mod Changes
mod Finding
pub mod Going
mod Uncrossed
mod Totals
mod Maps
mod Entering
mod Ranges
