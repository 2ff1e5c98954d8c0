-- sh:minInclusive (SHACL, section 4.3.2).
use Rattle.std.specs.Prelude.{ℕ, List}
use Rattle.graph_view.specs.Graph.{Graph}
use Rattle.value_space.specs.Compared.{is_less_eq_term}
use Rattle.comp_core.specs.declared.pair.At.{At}
use Rattle.comp_core.specs.declared.row.ResultRow.{ResultRow}
use Rattle.comp_core.specs.declared.kinds.TheConstants.{MIN_INCLUSIVE}
use Rattle.value_components.specs.declared.min_inclusive.MinInclusive.{MinInclusive}
use Rattle.comp_core.specs.Results.{each_unless}
use Rattle.comp_core.specs.TermTests.{are_so_at}

-- a result for each value node v for which `bound <= v` is not true
abbrev pub min_inclusive_hits : MinInclusive → Graph → At → List ℕ → List ResultRow
min_inclusive_hits c g at vs = each_unless (are_so_at is_less_eq_term g c.value) MIN_INCLUSIVE at vs
