pub mod ArrangementLemmas
pub mod DealingLemmas
pub mod IndexLemmas
pub mod IndexesLemmas
pub mod RangeLemmas
mod OverlayLemmas
