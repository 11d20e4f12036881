pub mod Steps
pub mod Walk
pub mod Clause
pub mod Tree
pub mod Meaning
pub mod Inverse
pub mod Sound
