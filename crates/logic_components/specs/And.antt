-- sh:and (SHACL, section 4.6.2).
use Rattle.std.specs.Prelude.{ℕ, List}
use Rattle.std.specs.List.{list_all}
use Rattle.comp_core.specs.declared.pair.At.{At}
use Rattle.comp_core.specs.declared.pair.Pair.{Pair}
use Rattle.comp_core.specs.declared.row.ResultRow.{ResultRow}
use Rattle.comp_core.specs.declared.kinds.TheConstants.{AND}
use Rattle.comp_core.specs.Asking.{conforms}
use Rattle.comp_core.specs.Results.{each_unless}
use Rattle.logic_components.specs.declared.conjunction.And.{And}

-- a result for each value node that does not conform to each of the shapes
abbrev pub and_hits : And → (Pair → List ResultRow) → At → List ℕ → List ResultRow
and_hits c m at vs = each_unless (λ v. list_all (conforms m v) c.shapes.items) AND at vs
