pub mod Standing
pub mod Search
pub mod Turns
pub mod Making
pub mod Kept
