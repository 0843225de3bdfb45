pub mod Told
pub mod Framed
pub mod Going
