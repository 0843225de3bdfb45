pub mod Left
pub mod Named
pub mod Turns
pub mod Joined
pub mod Numbered
pub mod Listing
pub mod Telling
