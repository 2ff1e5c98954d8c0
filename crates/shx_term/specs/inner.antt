-- Words of the inside: what is proved of public calls can be believed without them.
pub mod Appended
pub mod IriTexts
pub mod TermEquality
pub mod TermHash
pub mod TermKeys
pub mod TermOrderLaws
pub mod TripleLaws
