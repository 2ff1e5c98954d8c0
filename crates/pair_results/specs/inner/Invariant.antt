-- What is true of all that is kept: whatever is staged has its place, no other place is empty, and the counts
-- are right.
use Rattle.std.specs.Prelude.{◌≡◌, ℕ, ◌+◌, ◌<◌, ◌≤◌, ◌^◌, false, ◌&&◌, ◌==◌, List, [], length, flat_map}
use Rattle.std.specs.Prelude.{if◌then◌else◌, Some, IsSome}
use Rattle.std.specs.Map.{lookup}
use Rattle.std.specs.Ordering.{eq_by_cmp}
use Rattle.shx_term.specs.TermOrder.{term_cmp}
use Rattle.shx_term.specs.declared.term.Term.{Term}
use Rattle.comp_core.specs.declared.row.ResultRow.{ResultRow}
use Rattle.pair_results.specs.PairResults.{AreInTermOrder, Kept, Nodes, all_rows, nodes_of, place_of}
use Rattle.pair_results.specs.PairResults.{is_at, rows_in, staged_at}
use Rattle.pair_results.specs.declared.pair_results.Place.{Place}

-- what is staged, by shapes and nodes
abbrev pub Staged : Type 0
Staged = List (Place × List ResultRow)

-- all results that are staged
abbrev pub staged_rows : Kept → List ResultRow
staged_rows kept = flat_map (λ e. e.1) kept.staged

-- whatever is staged has a place among the nodes of its shape
pub record HavePlaces (kept : Kept) : Type 0 where
  pub each : (shape : ℕ) (node : Term) → IsSome (staged_at kept shape node)
      → IsSome (place_of (nodes_of kept shape) node)

-- a node that has a place has results, or some are staged for it
pub record AreNeeded (kept : Kept) : Type 0 where
  pub each : (shape : ℕ) (node : Term) → place_of (nodes_of kept shape) node ≡ Some []
      → IsSome (staged_at kept shape node)

pub record IsCounted (kept : Kept) (count coming : ℕ) : Type 0 where
  pub ordered : AreInTermOrder kept
  pub places : HavePlaces kept
  pub needed : AreNeeded kept
  pub counted : count ≡ length (all_rows kept)
  pub staged : length (staged_rows kept) ≤ coming
  pub fits : count + coming < 2 ^ 64

-- one more is staged, or in the place of what was staged there
pub record AddsAt (old new : Staged) (shape : ℕ) (node : Term) (rows : List ResultRow) : Type 0 where
  pub each : (n : ℕ) (other : Term) → lookup (is_at n other) new
      ≡ (if (shape == n) && eq_by_cmp term_cmp node other then Some rows else lookup (is_at n other) old)
  pub count : length (flat_map (λ e. e.1) new) ≤ length (flat_map (λ e. e.1) old) + length rows

-- ---- the nodes of one shape

-- the same results at each node
pub record SameRowsIn (old new : Nodes) : Type 0 where
  pub each : (node : Term) → rows_in new node ≡ rows_in old node

-- every node that has a place keeps it
pub record KeepPlaces (old new : Nodes) : Type 0 where
  pub each : (node : Term) → IsSome (place_of old node) → IsSome (place_of new node)

-- every node but one has the place that it had, or none
pub record SameOtherPlaces (node : Term) (old new : Nodes) : Type 0 where
  pub each : (other : Term) → eq_by_cmp term_cmp node other ≡ false
      → place_of new other ≡ place_of old other

-- a node that has a place has results
abbrev pub IsFilled : Nodes → Term → Type 0
IsFilled nodes node = place_of nodes node ≡ Some [] → ⊥
