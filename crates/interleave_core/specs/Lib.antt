pub mod Cores
pub mod Allowed
pub mod Runs
pub mod Safe
pub mod Making
pub mod Follows
