pub mod Counts
pub mod Fitting
pub mod Pointing
pub mod Reaching
pub mod Told
