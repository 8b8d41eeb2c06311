pub mod Groups
pub mod Views
pub mod Falls
pub mod Equal
pub mod TreeEqual
pub mod SchemaEqual
