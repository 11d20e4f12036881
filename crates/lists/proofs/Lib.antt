pub mod Walked
pub mod Due
pub mod Runs
pub mod Places
pub mod Back
