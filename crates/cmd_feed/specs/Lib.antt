pub mod Outsides
pub mod Fed
pub mod Lived
pub mod Steps
