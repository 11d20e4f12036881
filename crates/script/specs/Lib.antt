pub mod Names
pub mod Terms
pub mod Lines
pub mod Text
pub mod Plain
pub mod Size
pub mod Example
