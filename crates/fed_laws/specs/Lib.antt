pub mod Given
pub mod Answers
pub mod Laws
pub mod Told
pub mod At
