pub mod Trees
pub mod Views
pub mod Falls
pub mod Plans
pub mod Parts
pub mod Context
pub mod Legal
pub mod Templates
