pub mod Outboxes
pub mod Tallies
pub mod Inboxes
pub mod Notes
pub mod Faults
