pub mod Few
pub mod Least
pub mod Orders
