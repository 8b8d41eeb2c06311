mod Adds
mod Answering
mod Appends
mod Fetching
mod Fitting
mod Fronts
mod Headers
pub mod Instead
mod Pushing
pub mod Rereads
mod Scans
pub mod Settled
mod Spanning
mod Writes
