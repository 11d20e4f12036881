pub mod Difference
pub mod Shape
pub mod Rows
pub mod Laws
