pub mod OrderLemmas
pub mod PairLemmas
