pub mod Cuts
pub mod Numerals
pub mod Taken
pub mod Texts
mod Lined
mod Splits
mod Worded
