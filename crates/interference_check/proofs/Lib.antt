pub mod Following
pub mod Staying
pub mod Parting
pub mod Tabling
