pub mod Blocks
pub mod Links
pub mod Received
pub mod Signals
pub mod Surveys
pub mod Texts
