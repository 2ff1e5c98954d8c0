pub mod Order
pub mod Outcome
pub mod References
pub mod Truth
pub mod inner
