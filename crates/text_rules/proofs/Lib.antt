pub mod BlockSteps
pub mod LinkSteps
pub mod SignalSteps
pub mod SurveySteps
