pub mod Schema
pub mod Orders
pub mod Reports
pub mod Plans
pub mod Laws
