pub mod Slice
pub mod inner
