pub mod Numbering
pub mod Fitting
pub mod Marking
pub mod Filling
pub mod Growing
pub mod Flowing
pub mod Placing
pub mod Telling
