pub mod Answer
pub mod Then
pub mod Room
pub mod Among
