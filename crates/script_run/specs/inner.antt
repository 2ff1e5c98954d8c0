-- Words by which only the inside of this crate is proved: nothing that a caller relies on cites them.
pub mod Changing
pub mod Loading
