pub mod Points
pub mod Rows
pub mod Lines
pub mod Told
