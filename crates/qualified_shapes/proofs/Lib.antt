pub mod ClosedLemmas
pub mod QualifiedLemmas
