pub mod State
pub mod Laws
