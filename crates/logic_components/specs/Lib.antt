pub mod And
pub mod Node
pub mod Not
pub mod Or
pub mod Property
pub mod Xone
pub mod inner
