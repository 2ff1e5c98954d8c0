-- What is left of the references of a shape.
use Rattle.std.specs.Prelude.{◌≡◌, ℕ, ◌<◌, ◌≤◌, List, length, slice_index, Contains}
use Rattle.shape_order.specs.declared.references.Reference.{Reference}

-- the references at places from one up to another are listed
pub record AreListed (shapes listed : List ℕ) (from to : ℕ) : Type 0 where
  pub each : (k : ℕ) → from ≤ k → k < to → Contains listed (slice_index shapes k)

-- this is the first that is not
pub record IsNext (shapes listed : List ℕ) (from : ℕ) (r : Reference) : Type 0 where
  pub within : r.place < length shapes
  pub is : slice_index shapes r.place ≡ r.shape
  pub passed : AreListed shapes listed from r.place
  pub new : Contains listed r.shape → ⊥
