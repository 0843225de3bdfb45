pub mod Parts
pub mod Numerals
pub mod Lines
pub mod Words
