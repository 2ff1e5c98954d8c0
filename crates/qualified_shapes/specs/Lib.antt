pub mod Closed
pub mod Qualified
pub mod QualifiedMaxCount
pub mod QualifiedMinCount
