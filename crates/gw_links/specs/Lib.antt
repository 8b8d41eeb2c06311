pub mod Dialers
pub mod Echoes
pub mod Links
