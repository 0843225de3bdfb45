pub mod Reading
pub mod Certifying
