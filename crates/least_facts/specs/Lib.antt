pub mod Fit
pub mod Marks
pub mod Giving
pub mod Growing
pub mod Least
pub mod Looks
pub mod Settings
