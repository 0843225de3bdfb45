pub mod formers
pub mod Few
pub mod Grammar
pub mod Words
