-- sh:xone (SHACL, section 4.6.4).
use Rattle.std.specs.Prelude.{ℕ, ◌==◌, List}
use Rattle.comp_core.specs.declared.pair.At.{At}
use Rattle.comp_core.specs.declared.pair.Pair.{Pair}
use Rattle.comp_core.specs.declared.row.ResultRow.{ResultRow}
use Rattle.comp_core.specs.declared.kinds.TheConstants.{XONE}
use Rattle.comp_core.specs.Asking.{conforming_of}
use Rattle.comp_core.specs.Results.{each_unless}
use Rattle.logic_components.specs.declared.exactly_one.Xone.{Xone}

-- a result for each value node that conforms to none of the shapes or to more than one; a shape counts as
-- often as it stands in the list
abbrev pub xone_hits : Xone → (Pair → List ResultRow) → At → List ℕ → List ResultRow
xone_hits c m at vs = each_unless (λ v. conforming_of m c.shapes.items v == 1) XONE at vs
