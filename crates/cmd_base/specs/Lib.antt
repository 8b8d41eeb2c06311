pub mod Codes
pub mod Texts
pub mod Contents
pub mod Causes
pub mod Order
