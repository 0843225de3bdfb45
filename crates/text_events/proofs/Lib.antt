pub mod There
pub mod Layers
pub mod Steps
