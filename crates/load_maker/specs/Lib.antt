pub mod Patterns
pub mod Exchange
pub mod Signals
