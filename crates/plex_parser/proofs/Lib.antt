pub mod BlockLoops
pub mod Blocks
pub mod Exchange
pub mod Loops
pub mod Parsed
pub mod PlainStatements
pub mod Statements
pub mod Starts
