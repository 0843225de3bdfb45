pub mod Bounded
pub mod Shapes
pub mod Status
pub mod Words
