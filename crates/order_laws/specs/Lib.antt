pub mod Picks
pub mod Ends
pub mod Keeps
pub mod Windows
pub mod Books
