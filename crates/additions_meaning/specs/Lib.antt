pub mod Additions
pub mod Amounts
pub mod Lists
pub mod Sparing
