pub mod DiskLaws
pub mod Disks
pub mod InMemory
pub mod MemDisks
