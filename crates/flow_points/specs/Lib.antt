pub mod Places
pub mod Slots
pub mod Sources
pub mod Flows
pub mod Facts
pub mod Orders
