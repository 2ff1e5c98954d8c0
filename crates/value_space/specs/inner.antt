-- What the code inside is proved by: no contract of a public function cites it.
pub mod Canonical
pub mod DigitRuns
pub mod MomentParts
pub mod MomentTexts
pub mod Numerals
pub mod Spaces
