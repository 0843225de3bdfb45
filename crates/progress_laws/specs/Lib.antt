pub mod Going
pub mod Counts
