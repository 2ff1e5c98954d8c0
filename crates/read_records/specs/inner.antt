-- Words of the inside: what is proved of public calls can be believed without them.
pub mod Masks
pub mod Notes
pub mod Postings
pub mod ReaderLaws
pub mod Reached
pub mod Filing
pub mod Remembered
pub mod Touched
