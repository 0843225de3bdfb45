pub mod Alike
pub mod Judging
pub mod Shaping
