pub mod Classes
pub mod Exact
pub mod OneFault
pub mod Same
pub mod Sequences
pub mod Whole
pub mod Words
