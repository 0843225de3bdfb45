pub mod Firsts
pub mod Points
