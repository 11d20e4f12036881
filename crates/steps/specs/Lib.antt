pub mod Put
pub mod Walk
