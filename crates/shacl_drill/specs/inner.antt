-- Words by which only the inside of this crate is proved: nothing that `drill` promises cites them.
pub mod Ran
pub mod Tallied
pub mod Told
