pub mod Chain
pub mod Forlopps
pub mod Own
pub mod Touches
pub mod Truth
pub mod Waiting
