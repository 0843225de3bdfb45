pub mod Form
pub mod Filter
pub mod Trace
pub mod Table
pub mod Turns
pub mod Text
