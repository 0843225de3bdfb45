pub mod Narrow
pub mod Numbers
pub mod Places
pub mod Values
pub mod Known
pub mod Grids
pub mod Spread
pub mod Touched
