pub mod Checking
pub mod Owning
pub mod Summing
