pub mod Alike
pub mod Renumbered
pub mod Swap
pub mod inner
