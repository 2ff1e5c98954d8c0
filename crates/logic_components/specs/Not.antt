-- sh:not (SHACL, section 4.6.1).
use Rattle.std.specs.Prelude.{ℕ, List, not}
use Rattle.comp_core.specs.declared.pair.At.{At}
use Rattle.comp_core.specs.declared.pair.Pair.{Pair}
use Rattle.comp_core.specs.declared.row.ResultRow.{ResultRow}
use Rattle.comp_core.specs.declared.kinds.TheConstants.{NOT}
use Rattle.comp_core.specs.Asking.{conforms}
use Rattle.comp_core.specs.Results.{each_unless}
use Rattle.logic_components.specs.declared.negation.Not.{Not}

-- a result for each value node that conforms to the shape
abbrev pub not_hits : Not → (Pair → List ResultRow) → At → List ℕ → List ResultRow
not_hits c m at vs = each_unless (λ v. not (conforms m v c.shape)) NOT at vs
