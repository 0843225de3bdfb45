pub mod Found
pub mod Signals
