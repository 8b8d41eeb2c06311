mod Bodies
mod Spelling
pub mod Verdicts
