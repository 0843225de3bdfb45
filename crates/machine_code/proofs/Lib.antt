pub mod Listed
pub mod Spanned
pub mod Told
pub mod Passing
pub mod Fusing
