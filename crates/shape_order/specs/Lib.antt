pub mod Chain
pub mod Levels
pub mod Order
pub mod Outcome
pub mod Refs
pub mod inner
