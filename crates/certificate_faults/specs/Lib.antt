pub mod Missing
pub mod Reached
pub mod Returned
pub mod Strange
