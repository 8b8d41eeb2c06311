pub mod Driven
pub mod Payloads
pub mod Standing
pub mod Stopped
pub mod Summaries
pub mod Together
pub mod Totals
