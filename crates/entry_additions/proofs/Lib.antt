pub mod Exact
pub mod Kept
pub mod Named
pub mod Pushing
pub mod Searched
pub mod Summing
pub mod Widths
