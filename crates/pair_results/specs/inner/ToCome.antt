-- Results that are to come, where those of some shapes are gone over.
use Rattle.std.specs.Prelude.{ℕ, ◌+◌, List, [], ◌∷◌, ◌++◌, Option, Some, None, flat_map, length, slice_get}
use Rattle.std.specs.BTreeMap.{BTreeMap}
use Rattle.shx_term.specs.declared.term.Term.{Term}
use Rattle.comp_core.specs.declared.row.ResultRow.{ResultRow}
use Rattle.pair_results.specs.PairResults.{Nodes, rows_of_nodes}

abbrev pub entries_if_any : Option (BTreeMap Term (List ResultRow)) → Nodes
entries_if_any None = []
entries_if_any (Some nodes) = nodes.entries

abbrev pub nodes_at : List (BTreeMap Term (List ResultRow)) → ℕ → Nodes
nodes_at all shape = entries_if_any (slice_get all shape)

abbrev pub left_of : Option (List (List ResultRow)) → List (List ResultRow)
left_of None = []
left_of (Some lists) = lists

-- those of the node at hand, then of the shape at hand, then of the shapes behind it
abbrev pub to_come : List (BTreeMap Term (List ResultRow)) → List ℕ → Option (List (List ResultRow))
    → List ResultRow → List ResultRow
to_come all shapes nodes rows =
    rows ++ (flat_map (λ list. list) (left_of nodes) ++ flat_map (λ n. rows_of_nodes (nodes_at all n)) shapes)

-- how many nodes and shapes are to come
abbrev pub turns_of : List (BTreeMap Term (List ResultRow)) → List ℕ → ℕ
turns_of all [] = 0
turns_of all (shape ∷ shapes) = length (nodes_at all shape) + 1 + turns_of all shapes

-- how often one turns to a node or a shape from here on
abbrev pub turns_left : List (BTreeMap Term (List ResultRow)) → List ℕ → Option (List (List ResultRow)) → ℕ
turns_left all shapes nodes = length (left_of nodes) + turns_of all shapes
