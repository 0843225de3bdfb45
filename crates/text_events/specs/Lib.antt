pub mod Blocks
pub mod Kept
pub mod Named
pub mod Note
pub mod Seen
pub mod Texts
pub mod Walk
