pub mod Whole
pub mod Bytes
