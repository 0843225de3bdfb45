pub mod Judging
pub mod Leaving
pub mod Same
pub mod Sparing
pub mod Telling
