pub mod Declaring
pub mod Loops
pub mod Signalling
