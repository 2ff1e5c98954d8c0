pub mod CommandLemmas
pub mod ReadLemmas
pub mod RowLemmas
pub mod SortLemmas
pub mod StandLemmas
pub mod TextLemmas
pub mod TurnLemmas
