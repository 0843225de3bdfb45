pub mod Adding
pub mod Left
pub mod Sparing
