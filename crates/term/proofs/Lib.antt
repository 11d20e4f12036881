pub mod Laws
pub mod Draws
