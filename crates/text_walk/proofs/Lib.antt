pub mod BlockSteps
pub mod Choices
