pub mod Causes
pub mod Files
pub mod Kept
pub mod Steady
pub mod Stored
pub mod Written
