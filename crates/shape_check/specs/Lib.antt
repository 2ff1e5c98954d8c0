pub mod Faults
pub mod Kinds
pub mod Laws
pub mod Restrictions
pub mod inner
