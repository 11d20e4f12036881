pub mod Step
pub mod Answer
pub mod Exact
