pub mod Forms
pub mod OneSession
