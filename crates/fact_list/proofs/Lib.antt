pub mod Ordering
pub mod Searching
