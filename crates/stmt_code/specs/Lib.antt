pub mod Numbers
pub mod RecordCode
pub mod StmtCode
pub mod Whole
pub mod Within
