pub mod Blocks
pub mod Fine
pub mod Meanings
pub mod Resolved
pub mod Served
pub mod Shares
