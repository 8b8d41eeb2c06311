pub mod Restricted
pub mod Projected
pub mod SameTypes
pub mod Extends
pub mod Absences
