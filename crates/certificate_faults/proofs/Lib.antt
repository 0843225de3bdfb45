pub mod Firsts
pub mod Joining
pub mod Lowered
pub mod Slotted
pub mod Standing
