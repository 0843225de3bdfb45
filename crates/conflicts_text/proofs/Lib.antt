pub mod Ranges
pub mod Telling
pub mod Within
pub mod Alike
pub mod Sectioned
pub mod Lining
pub mod Sizing
pub mod Fitting
