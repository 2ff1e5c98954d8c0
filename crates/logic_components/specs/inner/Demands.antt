-- To how many of some shapes a node has to conform.
use Rattle.std.specs.Prelude.{ℕ, Bool, nat_lt, ◌==◌, List, length}
use Rattle.comp_core.specs.declared.pair.Pair.{Pair}
use Rattle.comp_core.specs.declared.row.ResultRow.{ResultRow}
use Rattle.comp_core.specs.Asking.{conforming_of}
use Rattle.logic_components.specs.declared.demand.Demand.{Demand}
use Rattle.logic_components.specs.declared.demand.Demand.TheVariants.{None, Some, One, All}

abbrev pub is_met : Demand → ℕ → ℕ → Bool
is_met None count most = count == 0
is_met Some count most = nat_lt 0 count
is_met One count most = count == 1
is_met All count most = count == most

abbrev pub is_met_at : Demand → (Pair → List ResultRow) → List ℕ → ℕ → Bool
is_met_at demand m shapes v = is_met demand (conforming_of m shapes v) (length shapes)
