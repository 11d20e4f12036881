pub mod Trying
pub mod Clauses
pub mod Weighing
