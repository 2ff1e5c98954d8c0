pub mod CutLemmas
pub mod DotStepLemmas
pub mod PathLemmas
pub mod ResolvedAbsoluteLemmas
pub mod ResolvedLemmas
pub mod SegmentLemmas
pub mod WalkLemmas
