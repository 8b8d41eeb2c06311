pub mod Lives
pub mod Plans
pub mod PlanLaws
pub mod PlanLives
pub mod Answered
pub mod AnsweredLives
