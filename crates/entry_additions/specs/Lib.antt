pub mod Added
pub mod Cells
pub mod Naming
pub mod Others
pub mod Sums
