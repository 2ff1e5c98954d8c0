-- sh:minCount (SHACL, section 4.2.1).
use Rattle.std.specs.Prelude.{ℕ, List, length}
use Rattle.graph_view.specs.Graph.{Graph}
use Rattle.value_space.specs.Counts.{is_fewer}
use Rattle.comp_core.specs.declared.pair.At.{At}
use Rattle.comp_core.specs.declared.row.ResultRow.{ResultRow}
use Rattle.comp_core.specs.declared.kinds.TheConstants.{MIN_COUNT}
use Rattle.value_components.specs.declared.min_count.MinCount.{MinCount}
use Rattle.comp_core.specs.Results.{once_if}
use Rattle.comp_core.specs.TermTests.{is_so_at}

-- one result without a value, where there are fewer value nodes than the number says
abbrev pub min_count_hits : MinCount → Graph → At → List ℕ → List ResultRow
min_count_hits c g at vs = once_if (is_so_at (is_fewer (length vs)) g c.value) MIN_COUNT at
