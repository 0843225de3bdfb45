pub mod Events
pub mod Bytes
pub mod Lines
pub mod Accounts
pub mod Stores
pub mod Retired
pub mod Traffic
pub mod Parts
