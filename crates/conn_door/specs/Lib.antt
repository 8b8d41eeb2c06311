pub mod Answers
pub mod Flows
pub mod Doors
pub mod Senders
