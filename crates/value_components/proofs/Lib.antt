pub mod ComponentLemmas
pub mod ClassLemmas
pub mod RepeatedLemmas
pub mod TagLemmas
