pub mod Numbered
pub mod Operands
pub mod Uses
pub mod Opening
pub mod Adding
pub mod Levels
pub mod Listed
