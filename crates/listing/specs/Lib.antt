pub mod Faults
pub mod Forms
pub mod Instructions
pub mod Listing
pub mod Parts
pub mod Rows
pub mod Statements
