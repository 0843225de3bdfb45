pub mod Blocks
pub mod Expressions
pub mod Meant
pub mod Names
pub mod Statements
pub mod Texts
