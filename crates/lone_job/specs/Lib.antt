pub mod Contexts
pub mod Turns
