pub mod Finds
pub mod Prefixes
pub mod Untold
