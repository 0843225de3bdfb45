pub mod Names
pub mod Report
pub mod Load
pub mod Tallies
