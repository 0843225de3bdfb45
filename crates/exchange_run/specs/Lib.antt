pub mod Runs
pub mod Comes
