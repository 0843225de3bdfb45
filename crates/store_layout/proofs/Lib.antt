pub mod Laying
pub mod Looking
pub mod Opened
