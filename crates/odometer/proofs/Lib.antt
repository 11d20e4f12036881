pub mod Laws
pub mod Signed
pub mod Turns
pub mod Totals
