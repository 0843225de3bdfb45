pub mod Growing
pub mod Pairing
pub mod Owning
pub mod Wording
