pub mod Stood
pub mod Sides
pub mod Front
