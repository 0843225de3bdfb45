pub mod Addresses
pub mod Settings
pub mod Choices
pub mod Receivers
pub mod Unrolled
