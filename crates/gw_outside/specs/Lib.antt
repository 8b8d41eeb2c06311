pub mod Disk
pub mod Faults
