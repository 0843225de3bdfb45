pub mod Changed
pub mod Rooted
