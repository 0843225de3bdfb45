pub mod Names
pub mod Lines
pub mod Pairs
pub mod Telling
pub mod Bodies
pub mod Analysis
