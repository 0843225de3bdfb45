pub mod Certified
pub mod Faults
pub mod Shapes
pub mod Summaries
pub mod Verdicts
