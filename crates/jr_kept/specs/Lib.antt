pub mod Adding
pub mod Entries
pub mod Faults
pub mod Inbox
pub mod Notes
pub mod Outbox
pub mod Tallies
pub mod Undated
