pub mod Orders
pub mod Pairs
pub mod Clashes
pub mod Nearby
pub mod Asked
pub mod Idle
