-- sh:or (SHACL, section 4.6.3).
use Rattle.std.specs.Prelude.{ℕ, List}
use Rattle.std.specs.List.{list_any}
use Rattle.comp_core.specs.declared.pair.At.{At}
use Rattle.comp_core.specs.declared.pair.Pair.{Pair}
use Rattle.comp_core.specs.declared.row.ResultRow.{ResultRow}
use Rattle.comp_core.specs.declared.kinds.TheConstants.{OR}
use Rattle.comp_core.specs.Asking.{conforms}
use Rattle.comp_core.specs.Results.{each_unless}
use Rattle.logic_components.specs.declared.disjunction.Or.{Or}

-- a result for each value node that conforms to none of the shapes
abbrev pub or_hits : Or → (Pair → List ResultRow) → At → List ℕ → List ResultRow
or_hits c m at vs = each_unless (λ v. list_any (conforms m v) c.shapes.items) OR at vs
