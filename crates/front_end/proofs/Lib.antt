pub mod CollectedSteps
pub mod EntrySteps
pub mod Firsts
pub mod Lists
pub mod PointSteps
pub mod Told
