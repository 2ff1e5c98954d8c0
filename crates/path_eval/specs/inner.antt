-- Words of contracts inside the crate, and the laws that its types cite; no caller needs them.
pub mod Climbed
pub mod Course
pub mod HeldStates
pub mod Laid
pub mod Laying
pub mod Reached
pub mod Rows
pub mod SameRoute
pub mod SameRouteLaws
pub mod StateLaws
pub mod States
pub mod Through
