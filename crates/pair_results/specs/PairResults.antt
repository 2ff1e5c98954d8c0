-- The results of shapes at nodes: what is kept, what is staged, and the order in which they stand.
use Rattle.std.specs.Prelude.{◌≡◌, ℕ, List, [], Option, Some, None, flat_map, slice_get, Contains, All}
use Rattle.std.specs.Prelude.{if◌then◌else◌, Bool, ◌&&◌, ◌==◌}
use Rattle.std.specs.List.Sorted.{IsStrictlySortedBy}
use Rattle.std.specs.Map.{lookup, keys_of}
use Rattle.std.specs.Ordering.{eq_by_cmp}
use Rattle.shx_term.specs.TermOrder.{term_cmp}
use Rattle.shx_term.specs.declared.term.Term.{Term}
use Rattle.comp_core.specs.declared.row.ResultRow.{ResultRow}
use Rattle.pair_results.specs.declared.pair_results.Place.{Place}

-- nodes by their terms, each with its results
abbrev pub Nodes : Type 0
Nodes = List (Term × List ResultRow)

-- the nodes of each shape, by its number, and what is staged for some
pub record Kept : Type 0 where
  pub shapes : List Nodes
  pub staged : List (Place × List ResultRow)

abbrev pub rows_if_any : Option (List ResultRow) → List ResultRow
rows_if_any None = []
rows_if_any (Some rows) = rows

-- the results at a node, if it has a place
abbrev pub place_of : Nodes → Term → Option (List ResultRow)
place_of nodes node = lookup (eq_by_cmp term_cmp node) nodes

abbrev pub rows_in : Nodes → Term → List ResultRow
rows_in nodes node = rows_if_any (place_of nodes node)

abbrev pub nodes_if_any : Option Nodes → Nodes
nodes_if_any None = []
nodes_if_any (Some nodes) = nodes

abbrev pub nodes_of : Kept → ℕ → Nodes
nodes_of kept shape = nodes_if_any (slice_get kept.shapes shape)

-- the results of a shape at a node
abbrev pub rows_at : Kept → ℕ → Term → List ResultRow
rows_at kept shape node = rows_in (nodes_of kept shape) node

-- whether a place is that of a shape and a node
abbrev pub is_at : ℕ → Term → Place → Bool
is_at shape node place = (shape == place.shape) && eq_by_cmp term_cmp node place.node

-- what is staged for a shape at a node
abbrev pub staged_at : Kept → ℕ → Term → Option (List ResultRow)
staged_at kept shape node = lookup (is_at shape node) kept.staged

abbrev pub or_else : List ResultRow → Option (List ResultRow) → List ResultRow
or_else rows None = rows
or_else rows (Some others) = others

-- the results of a shape at a node once what is staged is made
abbrev pub rows_after : Kept → ℕ → Term → List ResultRow
rows_after kept shape node = or_else (rows_at kept shape node) (staged_at kept shape node)

-- ---- what calls do

-- there are no results
pub record HasNothing (kept : Kept) : Type 0 where
  pub each : (shape : ℕ) (node : Term) → rows_at kept shape node ≡ []

-- the same is kept
pub record SameRows (old new : Kept) : Type 0 where
  pub each : (shape : ℕ) (node : Term) → rows_at new shape node ≡ rows_at old shape node

-- what is staged comes to the same
pub record SameChanges (old new : Kept) : Type 0 where
  pub each : (shape : ℕ) (node : Term) → rows_after new shape node ≡ rows_after old shape node

-- these results are staged for a shape at a node, and for all others what was
pub record Stages (old new : Kept) (shape : ℕ) (node : Term) (rows : List ResultRow) : Type 0 where
  pub each : (n : ℕ) (other : Term) → rows_after new n other
      ≡ (if (shape == n) && eq_by_cmp term_cmp node other then rows else rows_after old n other)

-- what was staged is kept
pub record Commits (old new : Kept) : Type 0 where
  pub each : (shape : ℕ) (node : Term) → rows_at new shape node ≡ rows_after old shape node

-- ---- the order of results

abbrev pub rows_of_nodes : Nodes → List ResultRow
rows_of_nodes nodes = flat_map (λ e. e.1) nodes

-- the results of a shape, node by node
abbrev pub shape_rows : Kept → ℕ → List ResultRow
shape_rows kept shape = rows_of_nodes (nodes_of kept shape)

-- all results
abbrev pub all_rows : Kept → List ResultRow
all_rows kept = flat_map rows_of_nodes kept.shapes

-- the nodes of each shape stand in the order of their terms
abbrev pub AreInTermOrder : Kept → Type 0
AreInTermOrder kept = All (λ nodes. IsStrictlySortedBy term_cmp (keys_of nodes)) kept.shapes

-- so the results of a shape are those of any nodes in this order among which is each that has some
abbrev pub StandInTermOrder : Type 0
StandInTermOrder =
    (kept : Kept) → AreInTermOrder kept → (shape : ℕ) (terms : List Term)
    → IsStrictlySortedBy term_cmp terms
    → ((node : Term) → (rows_at kept shape node ≡ [] → ⊥) → Contains terms node)
    → shape_rows kept shape ≡ flat_map (rows_at kept shape) terms
