pub mod Gathering
pub mod Entries
pub mod Machine
pub mod Serving
pub mod Working
pub mod Lasting
pub mod Exchanging
pub mod Ticking
