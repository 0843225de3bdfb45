pub mod Preceding
pub mod Leasts
pub mod Conflicting
pub mod Nearing
pub mod Tested
pub mod Holding
pub mod Skipping
