mod Behind
mod Filters
mod Tabling
pub mod Tracing
mod Written
