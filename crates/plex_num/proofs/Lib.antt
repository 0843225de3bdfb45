pub mod Digits
pub mod Lists
pub mod Members
pub mod Names
pub mod Numbers
pub mod Options
pub mod Widths
