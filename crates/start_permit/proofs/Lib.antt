pub mod Gaining
pub mod Choosing
pub mod Rowing
pub mod Tabled
