pub mod Finite
pub mod Closing
pub mod Rising
pub mod Places
pub mod Leading
pub mod Slots
pub mod Giving
pub mod Facts
