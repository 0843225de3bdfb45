pub mod Declarations
pub mod Signals
