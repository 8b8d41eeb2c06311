mod Answering
mod Apart
mod Beginning
mod BytesIn
mod BytesOut
mod Composing
mod Doing
mod Given
mod Linked
pub mod Partings
mod Placing
mod Pumps
mod Sampled
pub mod Spelling
