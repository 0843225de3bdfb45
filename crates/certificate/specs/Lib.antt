pub mod Entries
pub mod Referring
