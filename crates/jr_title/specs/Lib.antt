pub mod Firsts
pub mod Laws
pub mod Others
pub mod Reading
pub mod Titles
