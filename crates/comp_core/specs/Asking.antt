-- What is asked of nodes at other shapes (SHACL, section 3.5).
use Rattle.std.specs.Prelude.{ℕ, Bool, List, map, filter, flat_map, length}
use Rattle.graph_view.specs.declared.key.Key.{Key}
use Rattle.comp_core.specs.declared.pair.Pair.{Pair}
use Rattle.comp_core.specs.declared.row.ResultRow.{ResultRow}
use Rattle.comp_core.specs.Rows.{is_empty}

abbrev pub pair_of : ℕ → ℕ → Pair
pair_of node shape = record { shape = shape; node = node }

-- a node at each of the shapes
abbrev pub pairs_at : List ℕ → ℕ → List Pair
pairs_at shapes node = map (pair_of node) shapes

-- each node at each of the shapes
abbrev pub pairs_asked : List ℕ → List ℕ → List Pair
pairs_asked shapes nodes = flat_map (pairs_at shapes) nodes

-- what was read for them
abbrev pub asked_keys : (Pair → List Key) → List ℕ → List ℕ → List Key
asked_keys r shapes nodes = flat_map (λ v. flat_map r (pairs_at shapes v)) nodes

-- the node has no results at the shape
abbrev pub conforms : (Pair → List ResultRow) → ℕ → ℕ → Bool
conforms m node shape = is_empty (m (pair_of node shape))

-- to how many of the shapes the node conforms, a shape as often as it stands there
abbrev pub conforming_of : (Pair → List ResultRow) → List ℕ → ℕ → ℕ
conforming_of m shapes node = length (filter (conforms m node) shapes)
