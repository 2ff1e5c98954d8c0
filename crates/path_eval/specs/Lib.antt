pub mod Instances
pub mod Relation
pub mod Route
pub mod Superclasses
pub mod Values
pub mod Way
pub mod inner
