pub mod Depth
pub mod Documents
pub mod Found
pub mod Grammar
pub mod ReadTerm
pub mod Stated
pub mod Unique
pub mod inner
