pub mod Room
pub mod Digits
pub mod Number
pub mod Shows
