pub mod Fit
pub mod Form
pub mod Merged
pub mod Places
pub mod Rules
pub mod Table
pub mod Writing
