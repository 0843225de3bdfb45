pub mod Choosing
pub mod Meaning
pub mod Turning
