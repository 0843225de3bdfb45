pub mod CountSteps
pub mod Parts
pub mod RuleSteps
pub mod Widths
