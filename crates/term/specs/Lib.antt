pub mod Name
pub mod Drawn
