pub mod Dividing
pub mod Equal
pub mod Sorting
