-- Words by which only the inside of this crate is proved: nothing that a caller relies on cites them.
pub mod Ends
pub mod Files
pub mod NodeRows
pub mod Prepared
pub mod Serving
pub mod Stops
pub mod Validation
