pub mod Gone
pub mod Held
pub mod Walk
