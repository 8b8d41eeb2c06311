pub mod Dated
pub mod Formats
pub mod Images
pub mod Journals
pub mod Laws
