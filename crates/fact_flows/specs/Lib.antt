pub mod Given
pub mod Flows
pub mod Slots
