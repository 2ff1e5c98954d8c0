-- What an order of shapes is, and what stands in its way.
use Rattle.std.specs.Prelude.{◌≡◌, ℕ, suc, ◌<◌, ◌≤◌, ◌↔◌, nat_eq, List, length, slice_index, Result, Ok, Err}
use Rattle.std.specs.List.{IsDistinct}
use Rattle.shape_order.specs.Chain.{IsLeastCycle, IsRecursive}
use Rattle.shape_order.specs.Levels.{AreLevels, HasSteps}
use Rattle.shape_order.specs.Order.{HasEach, IsOrdered}
use Rattle.shape_order.specs.Refs.{Refers}
use Rattle.shape_order.specs.declared.ordering.Numbering.{Numbering}
use Rattle.shape_order.specs.declared.ordering.OrderFault.{OrderFault}
use Rattle.shape_order.specs.declared.ordering.OrderFault.TheVariants.{Recursive, TooDeep, Memory}

-- all shapes, each once and behind those that it refers to; the place of each; no level is above the limit
pub record IsNumbering (to : ℕ → List ℕ) (count limit : ℕ) (n : Numbering) : Type 0 where
  pub ordered : IsOrdered to n.order.items
  pub distinct : IsDistinct nat_eq n.order.items
  pub each : HasEach count n.order.items
  pub long : length n.order.items ≡ count
  pub places_long : length n.places.items ≡ count
  pub inverse : (k : ℕ) → k < count → slice_index n.places.items (slice_index n.order.items k) ≡ k
  pub stands : (i : ℕ) → i < count → slice_index n.order.items (slice_index n.places.items i) ≡ i
  pub within : (i : ℕ) → i < count → slice_index n.places.items i < count
  pub lower : (i j : ℕ) → i < count → Refers to i j
      → slice_index n.places.items j < slice_index n.places.items i
  pub levels_long : length n.levels.items ≡ count
  pub levels : AreLevels to count (slice_index n.levels.items)
  pub shallow : (i : ℕ) → i < count → slice_index n.levels.items i ≤ limit

-- no shape reaches itself, and this is the least from which more references lead on than the limit
pub record IsLeastTooDeep (to : ℕ → List ℕ) (limit shape : ℕ) : Type 0 where
  pub none : (i : ℕ) → IsRecursive to i → ⊥
  pub deep : HasSteps to (suc limit) shape
  pub least : (i : ℕ) → i < shape → HasSteps to (suc limit) i → ⊥

-- want of memory says nothing of the shapes
abbrev pub IsFault : (ℕ → List ℕ) → ℕ → OrderFault → Type 0
IsFault to limit (Recursive cycle) = IsLeastCycle to cycle.items
IsFault to limit (TooDeep shape) = IsLeastTooDeep to limit shape
IsFault to limit Memory = Unit {0}

-- ---- when each comes

abbrev pub SaysRecursive : Result Numbering OrderFault → Type 0
SaysRecursive (Ok numbering) = ⊥
SaysRecursive (Err (Recursive cycle)) = Unit {0}
SaysRecursive (Err (TooDeep shape)) = ⊥
SaysRecursive (Err Memory) = ⊥

abbrev pub SaysTooDeep : Result Numbering OrderFault → Type 0
SaysTooDeep (Ok numbering) = ⊥
SaysTooDeep (Err (Recursive cycle)) = ⊥
SaysTooDeep (Err (TooDeep shape)) = Unit {0}
SaysTooDeep (Err Memory) = ⊥

-- a cycle is found where there is one, and a shape too deep where there is one and no cycle
pub record IsExact (to : ℕ → List ℕ) (limit : ℕ) (found : Result Numbering OrderFault) : Type 0 where
  pub recursive : SaysRecursive found ↔ ((i : ℕ) × IsRecursive to i)
  pub too_deep : SaysTooDeep found
      ↔ (((i : ℕ) → IsRecursive to i → ⊥) × ((i : ℕ) × HasSteps to (suc limit) i))
