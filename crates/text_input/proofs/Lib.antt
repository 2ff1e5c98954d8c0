pub mod CountLemmas
pub mod LineLemmas
pub mod LinePartLemmas
pub mod ReadLineLemmas
pub mod RestLemmas
pub mod ScriptLineLemmas
