pub mod Fitting
pub mod Sound
pub mod Machine
pub mod Accepting
