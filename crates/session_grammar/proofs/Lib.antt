pub mod Computed
pub mod Cutting
pub mod Fields
pub mod SessionRows
pub mod TreeSpelled
pub mod SessionSpelled
pub mod Tied
