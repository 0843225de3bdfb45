pub mod Private
pub mod Machine
pub mod Faithful
pub mod Steps
