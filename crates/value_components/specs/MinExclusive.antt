-- sh:minExclusive (SHACL, section 4.3.1).
use Rattle.std.specs.Prelude.{ℕ, List}
use Rattle.graph_view.specs.Graph.{Graph}
use Rattle.value_space.specs.Compared.{is_less_term}
use Rattle.comp_core.specs.declared.pair.At.{At}
use Rattle.comp_core.specs.declared.row.ResultRow.{ResultRow}
use Rattle.comp_core.specs.declared.kinds.TheConstants.{MIN_EXCLUSIVE}
use Rattle.value_components.specs.declared.min_exclusive.MinExclusive.{MinExclusive}
use Rattle.comp_core.specs.Results.{each_unless}
use Rattle.comp_core.specs.TermTests.{are_so_at}

-- a result for each value node v for which `bound < v` is not true
abbrev pub min_exclusive_hits : MinExclusive → Graph → At → List ℕ → List ResultRow
min_exclusive_hits c g at vs = each_unless (are_so_at is_less_term g c.value) MIN_EXCLUSIVE at vs
