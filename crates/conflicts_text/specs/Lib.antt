pub mod Within
pub mod Means
pub mod Fits
