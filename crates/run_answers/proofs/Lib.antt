pub mod Carrying
pub mod Misfitting
pub mod Opened
pub mod Telling
