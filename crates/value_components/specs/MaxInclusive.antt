-- sh:maxInclusive (SHACL, section 4.3.4).
use Rattle.std.specs.Prelude.{ℕ, List}
use Rattle.graph_view.specs.Graph.{Graph}
use Rattle.value_space.specs.Compared.{is_less_eq_term}
use Rattle.comp_core.specs.declared.pair.At.{At}
use Rattle.comp_core.specs.declared.row.ResultRow.{ResultRow}
use Rattle.comp_core.specs.declared.kinds.TheConstants.{MAX_INCLUSIVE}
use Rattle.value_components.specs.declared.max_inclusive.MaxInclusive.{MaxInclusive}
use Rattle.comp_core.specs.Results.{each_unless}
use Rattle.comp_core.specs.TermTests.{are_so_at}

-- a result for each value node v for which `v <= bound` is not true
abbrev pub max_inclusive_hits : MaxInclusive → Graph → At → List ℕ → List ResultRow
max_inclusive_hits c g at vs =
    each_unless (are_so_at (λ bound t. is_less_eq_term t bound) g c.value) MAX_INCLUSIVE at vs
