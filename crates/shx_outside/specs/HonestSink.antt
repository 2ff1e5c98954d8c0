-- A sink in memory that has the room which was asked for before.
use Rattle.std.specs.Prelude.{ℕ, List}

-- the bytes that were put, the most bytes of a put, and the room for more
pub record HonestHeld : Type 0 where
  pub bytes : List ℕ
  pub most : ℕ
  pub room : ℕ
