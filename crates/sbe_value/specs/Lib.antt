pub mod Equal
pub mod Falls
pub mod Laws
pub mod PathText
pub mod TreeLaws
pub mod Trees
pub mod Views
