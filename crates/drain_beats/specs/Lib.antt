pub mod Quiet
pub mod Beats
