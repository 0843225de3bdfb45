pub mod Orders
pub mod Numbers
pub mod Accesses
pub mod Faults
pub mod Divides
pub mod Summaries
