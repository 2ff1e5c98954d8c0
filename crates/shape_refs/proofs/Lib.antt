pub mod CarriedLemmas
pub mod NearLemmas
pub mod NodeLemmas
pub mod OrderLemmas
pub mod PlaceLemmas
pub mod RowLemmas
pub mod TruthLemmas
