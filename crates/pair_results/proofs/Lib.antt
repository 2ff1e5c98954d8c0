pub mod EmptyLemmas
pub mod NodeLemmas
pub mod OrderLemmas
pub mod ShapeLemmas
pub mod StageLemmas
pub mod StagedLemmas
pub mod ToComeLemmas
