pub mod Sort
pub mod Reply
pub mod Text
pub mod Calls
