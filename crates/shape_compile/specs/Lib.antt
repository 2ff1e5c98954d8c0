pub mod Accepted
pub mod Answers
pub mod Constraints
pub mod Meaning
pub mod Patterns
pub mod inner
