pub mod Laws
pub mod Top
pub mod Small
