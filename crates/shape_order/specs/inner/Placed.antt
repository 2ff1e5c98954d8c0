-- The places of shapes in an order.
use Rattle.std.specs.Prelude.{◌≡◌, ℕ, ◌<◌, List, length, slice_index}

-- those of its first shapes, so many
pub record ArePlaced (count : ℕ) (order : List ℕ) (some : ℕ) (places : List ℕ) : Type 0 where
  pub long : length places ≡ count
  pub found : (k : ℕ) → k < some → slice_index places (slice_index order k) ≡ k
