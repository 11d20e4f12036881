pub mod Added
pub mod Laws
pub mod Rows
pub mod Trees
pub mod Sides
pub mod Due
