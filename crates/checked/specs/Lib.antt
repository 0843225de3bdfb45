pub mod Belonging
pub mod Kept
