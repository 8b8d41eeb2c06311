pub mod Bursts
pub mod Eights
pub mod Pieces
pub mod Steps
pub mod Tables
