pub mod Moves
pub mod Failing
pub mod Depths
pub mod Reasons
pub mod Following
pub mod Counting
pub mod Faulting
