pub mod Bytes
pub mod Cursors
pub mod Lexed
pub mod Lines
pub mod Marks
pub mod Pieces
pub mod Spots
pub mod Words
