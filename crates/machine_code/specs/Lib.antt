pub mod Operands
pub mod Permits
pub mod Told
pub mod Listed
pub mod Coded
pub mod Forms
pub mod Rows
