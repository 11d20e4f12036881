pub mod Promises
pub mod Part
