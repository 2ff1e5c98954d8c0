-- sh:maxExclusive (SHACL, section 4.3.3).
use Rattle.std.specs.Prelude.{ℕ, List}
use Rattle.graph_view.specs.Graph.{Graph}
use Rattle.value_space.specs.Compared.{is_less_term}
use Rattle.comp_core.specs.declared.pair.At.{At}
use Rattle.comp_core.specs.declared.row.ResultRow.{ResultRow}
use Rattle.comp_core.specs.declared.kinds.TheConstants.{MAX_EXCLUSIVE}
use Rattle.value_components.specs.declared.max_exclusive.MaxExclusive.{MaxExclusive}
use Rattle.comp_core.specs.Results.{each_unless}
use Rattle.comp_core.specs.TermTests.{are_so_at}

-- a result for each value node v for which `v < bound` is not true
abbrev pub max_exclusive_hits : MaxExclusive → Graph → At → List ℕ → List ResultRow
max_exclusive_hits c g at vs =
    each_unless (are_so_at (λ bound t. is_less_term t bound) g c.value) MAX_EXCLUSIVE at vs
