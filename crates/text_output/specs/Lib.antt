pub mod TermTexts
pub mod Writes
pub mod inner
