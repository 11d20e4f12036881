pub mod Demands
pub mod Shared
pub mod Theorems
pub mod Table
