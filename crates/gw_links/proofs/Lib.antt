mod EchoSteps
pub mod Moving
