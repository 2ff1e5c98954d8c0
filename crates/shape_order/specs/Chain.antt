-- Chains of references, and which shapes reach themselves.
use Rattle.std.specs.Prelude.{◌≡◌, ℕ, ◌+◌, ◌-◌, ◌<◌, nat_eq, List, length, slice_index}
use Rattle.std.specs.List.{IsDistinct}
use Rattle.shx_term.specs.Chains.{Longer}
use Rattle.shape_order.specs.Refs.{Refers}

-- the shape reaches itself
abbrev pub IsRecursive : (ℕ → List ℕ) → ℕ → Type 0
IsRecursive to i = Longer (Refers to) i i

-- each refers to the next
pub record IsTrail (to : ℕ → List ℕ) (path : List ℕ) : Type 0 where
  pub steps : (k : ℕ) → k + 1 < length path → Refers to (slice_index path k) (slice_index path (k + 1))

-- distinct shapes in a ring: a reference leads from each to the one behind it, and from the last to the start
pub record IsCycle (to : ℕ → List ℕ) (start : ℕ) (cycle : List ℕ) : Type 0 where
  pub filled : 0 < length cycle
  pub first : slice_index cycle 0 ≡ start
  pub distinct : IsDistinct nat_eq cycle
  pub trail : IsTrail to cycle
  pub closed : Refers to (slice_index cycle (length cycle - 1)) start

-- a cycle from the least shape that reaches itself
pub record IsLeastCycle (to : ℕ → List ℕ) (shapes : List ℕ) : Type 0 where
  pub cycle : IsCycle to (slice_index shapes 0) shapes
  pub recursive : IsRecursive to (slice_index shapes 0)
  pub least : (i : ℕ) → i < slice_index shapes 0 → IsRecursive to i → ⊥
