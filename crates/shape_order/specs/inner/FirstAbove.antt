-- The first shape that stands too high.
use Rattle.std.specs.Prelude.{ℕ, ◌<◌, ◌≤◌}

-- the least shape whose level is above a limit
pub record IsFirstAbove (limit count : ℕ) (level : ℕ → ℕ) (shape : ℕ) : Type 0 where
  pub within : shape < count
  pub above : limit < level shape
  pub before : (i : ℕ) → i < shape → level i ≤ limit
