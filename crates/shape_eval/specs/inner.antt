-- What the code inside is proved by: no contract of a public function cites it.
pub mod Answers
pub mod Checked
pub mod Told
