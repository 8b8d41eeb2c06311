pub mod Flows
pub mod Phases
pub mod Handshake
