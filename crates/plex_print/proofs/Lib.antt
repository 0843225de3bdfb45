pub mod Fits
pub mod Lexing
pub mod Productions
pub mod Vocabulary
pub mod Words
