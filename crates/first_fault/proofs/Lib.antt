pub mod First
pub mod Once
pub mod Tells
pub mod Told
