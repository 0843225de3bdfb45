pub mod Counts
pub mod Cells
pub mod Joined
pub mod Lines
