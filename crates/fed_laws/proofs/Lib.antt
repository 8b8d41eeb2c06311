pub mod Gifts
pub mod Parts
pub mod Fed
pub mod Served
pub mod Told
pub mod At
