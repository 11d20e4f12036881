pub mod Task
pub mod Opened
