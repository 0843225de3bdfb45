pub mod Counting
pub mod Ending
pub mod Turning
pub mod Opened
pub mod Resting
