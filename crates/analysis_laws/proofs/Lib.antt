pub mod Certifying
pub mod Keeping
pub mod Refusing
pub mod Rising
pub mod Summing
pub mod Telling
