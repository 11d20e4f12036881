pub mod Bytes
pub mod Sexp
pub mod Parse
pub mod Split
pub mod Back
pub mod Size
