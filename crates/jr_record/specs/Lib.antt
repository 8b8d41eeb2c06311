pub mod Appending
pub mod Images
pub mod Laws
pub mod Records
