pub mod LeftLemmas
pub mod PatternLemmas
pub mod PlaceLemmas
pub mod PositionLemmas
pub mod ToldLemmas
