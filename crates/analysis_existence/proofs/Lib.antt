pub mod Naming
pub mod Accessing
pub mod Faulting
pub mod Circling
pub mod Summaries
pub mod Pairing
