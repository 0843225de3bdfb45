pub mod Printed
pub mod PrintedExpressions
pub mod Spelled
pub mod Writing
