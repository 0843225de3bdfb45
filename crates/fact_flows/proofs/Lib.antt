pub mod Peopled
pub mod Slotting
pub mod Gathering
pub mod Flowing
