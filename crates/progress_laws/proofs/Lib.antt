pub mod Counting
pub mod Ending
pub mod Pacing
pub mod Going
pub mod Reaching
