pub mod Blocks
pub mod Parses
pub mod Statements
