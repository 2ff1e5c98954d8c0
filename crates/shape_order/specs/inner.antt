-- What the code inside is proved by: no contract of a public function cites it.
pub mod FirstAbove
pub mod Listed
pub mod Numbered
pub mod Placed
pub mod Rising
pub mod Search
pub mod Visits
