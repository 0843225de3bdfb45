pub mod Again
mod Deciding
pub mod Entries
pub mod Fit
pub mod Fitted
pub mod Meant
pub mod Noting
pub mod Numbering
pub mod Ranges
pub mod Signals
pub mod Sorting
mod Standing
pub mod Tabled
pub mod Told
pub mod Turns
pub mod Words
