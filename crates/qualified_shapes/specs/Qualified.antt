-- Value nodes that conform to a shape and to none of its siblings (SHACL, section 4.7.3).
use Rattle.std.specs.Prelude.{ℕ, Bool, ◌&&◌, not, List, filter, length}
use Rattle.std.specs.List.{list_any}
use Rattle.comp_core.specs.declared.pair.Pair.{Pair}
use Rattle.comp_core.specs.declared.row.ResultRow.{ResultRow}
use Rattle.comp_core.specs.Asking.{conforms}

-- the node conforms to the shape, and to none of the siblings
abbrev pub qualifies : (Pair → List ResultRow) → ℕ → List ℕ → ℕ → Bool
qualifies m shape siblings v = conforms m v shape && not (list_any (conforms m v) siblings)

-- how many of the value nodes do
abbrev pub qualified_count : (Pair → List ResultRow) → ℕ → List ℕ → List ℕ → ℕ
qualified_count m shape siblings vs = length (filter (qualifies m shape siblings) vs)
