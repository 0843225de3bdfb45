pub mod Granted
pub mod Recorded
pub mod Listed
