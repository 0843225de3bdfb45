pub mod Placing
pub mod Written
pub mod Joined
