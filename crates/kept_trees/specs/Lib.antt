pub mod Keeps
pub mod Words
