pub mod Faults
pub mod Gives
pub mod Kept
pub mod Language
pub mod Reading
