pub mod Either
pub mod Sparing
pub mod Together
