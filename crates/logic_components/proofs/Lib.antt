pub mod DemandLemmas
pub mod NodeLemmas
pub mod OneShapeLemmas
pub mod PropertyLemmas
