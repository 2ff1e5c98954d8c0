pub mod PairResults
pub mod inner
