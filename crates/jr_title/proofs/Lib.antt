pub mod Causes
pub mod Fields
pub mod Firsts
pub mod Images
pub mod Titles
pub mod Written
