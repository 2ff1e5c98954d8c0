pub mod Clauses
pub mod Size
pub mod Summary
pub mod Texts
pub mod inner
