-- Results by node, without the nodes that have none.
use Rattle.std.specs.Prelude.{◌≡◌, ℕ, List, [], ◌∷◌, map, flat_map}
use Rattle.comp_core.specs.declared.row.ResultRow.{ResultRow}
use Rattle.shacl_run.specs.declared.node_rows.NodeRows.{NodeRows}

-- a node with its results
abbrev pub entry_of : NodeRows → ℕ × List ResultRow
entry_of at = (at.node, at.rows.items)

-- it is kept where there are some
abbrev pub entry_if_any : ℕ → List ResultRow → List (ℕ × List ResultRow)
entry_if_any node [] = []
entry_if_any node (row ∷ rows) = (node, row ∷ rows) ∷ []

-- these are kept of some nodes in turn, each of which has the results that f says
abbrev pub AreRowsAt : (ℕ → List ResultRow) → List ℕ → List NodeRows → Type 0
AreRowsAt f nodes found = map entry_of found ≡ flat_map (λ node. entry_if_any node (f node)) nodes
