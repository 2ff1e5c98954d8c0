-- What the code inside is proved by: no contract of a public function cites it.
pub mod Built
pub mod Faults
pub mod Parameters
pub mod Ready
pub mod Shapes
