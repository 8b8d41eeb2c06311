mod Changes
pub mod Finding
