pub mod Asking
pub mod Coming
pub mod Lining
pub mod Listing
pub mod Once
pub mod Parting
pub mod Turns
