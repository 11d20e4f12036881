pub mod Laws
pub mod First
