pub mod Window
pub mod Places
pub mod Gathering
pub mod Laws
pub mod Rows
