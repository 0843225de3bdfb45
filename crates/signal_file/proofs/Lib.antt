pub mod Behind
mod Found
pub mod Meant
mod Named
mod Tails
pub mod Tests
