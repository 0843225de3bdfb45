pub mod Conflicts
pub mod Ordered
pub mod Verdicts
pub mod Given
pub mod Clashing
pub mod Coming
pub mod Once
