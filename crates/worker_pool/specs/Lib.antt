pub mod Handed
pub mod Ways
