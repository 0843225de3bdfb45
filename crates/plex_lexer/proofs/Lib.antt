pub mod Ends
pub mod Keywords
pub mod Lines
pub mod SortedTokens
pub mod Steps
