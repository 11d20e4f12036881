pub mod Found
pub mod Exact
pub mod Due
pub mod Main
