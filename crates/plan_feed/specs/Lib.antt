pub mod Wrongs
pub mod Laws
pub mod Pieces
