pub mod Freed
pub mod Maps
pub mod Ordered
pub mod Sound
