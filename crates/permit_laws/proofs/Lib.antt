pub mod Words
pub mod Telling
pub mod Holding
pub mod Touching
pub mod Sending
pub mod Stepping
