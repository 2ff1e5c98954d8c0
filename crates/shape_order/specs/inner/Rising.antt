-- Numbers of shapes that rise along references.
use Rattle.std.specs.Prelude.{ℕ, ◌<◌, ◌≤◌, List, length, slice_index}

-- the numbers of these shapes are not below one
pub record AreAtLeast (shapes : List ℕ) (number : ℕ → ℕ) (least : ℕ) : Type 0 where
  pub each : (k : ℕ) → k < length shapes → least ≤ number (slice_index shapes k)

-- they are above it
pub record AreAbove (shapes : List ℕ) (number : ℕ → ℕ) (least : ℕ) : Type 0 where
  pub each : (k : ℕ) → k < length shapes → least < number (slice_index shapes k)

-- along no reference of the first shapes, so many, they fall
pub record NeverFalls (to : ℕ → List ℕ) (count : ℕ) (number : ℕ → ℕ) : Type 0 where
  pub each : (i : ℕ) → i < count → AreAtLeast (to i) number (number i)

-- along each reference of a shape before this one they rise
pub record RiseBelow (to : ℕ → List ℕ) (number : ℕ → ℕ) (shape : ℕ) : Type 0 where
  pub each : (i : ℕ) → i < shape → AreAbove (to i) number (number i)
