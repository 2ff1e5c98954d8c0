-- An order of shapes in which each stands behind those that it refers to.
use Rattle.std.specs.Prelude.{ℕ, ◌<◌, ◌↔◌, List, length, take, slice_index, Contains}
use Rattle.shape_order.specs.Refs.{Refers}

-- what a shape refers to stands in front of it
pub record IsOrdered (to : ℕ → List ℕ) (order : List ℕ) : Type 0 where
  pub behind : (k : ℕ) → k < length order → (j : ℕ) → Refers to (slice_index order k) j
      → Contains (take k order) j

-- the shapes, of which there are so many
pub record HasEach (count : ℕ) (order : List ℕ) : Type 0 where
  pub each : (i : ℕ) → Contains order i ↔ (i < count)
