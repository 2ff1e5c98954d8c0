pub mod Disjoint
pub mod Equals
pub mod LessThan
pub mod LessThanOrEquals
pub mod PairResults
pub mod inner
