pub mod Done
pub mod Merging
pub mod Once
