pub mod FaultLemmas
pub mod FirstLemmas
pub mod KindLemmas
pub mod LeftLemmas
pub mod ListLemmas
pub mod WellFormedLemmas
