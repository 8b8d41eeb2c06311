pub mod Decimals
pub mod Addresses
pub mod Feeds
