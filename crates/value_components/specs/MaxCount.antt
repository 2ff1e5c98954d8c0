-- sh:maxCount (SHACL, section 4.2.2).
use Rattle.std.specs.Prelude.{ℕ, List, length}
use Rattle.graph_view.specs.Graph.{Graph}
use Rattle.value_space.specs.Counts.{is_more}
use Rattle.comp_core.specs.declared.pair.At.{At}
use Rattle.comp_core.specs.declared.row.ResultRow.{ResultRow}
use Rattle.comp_core.specs.declared.kinds.TheConstants.{MAX_COUNT}
use Rattle.value_components.specs.declared.max_count.MaxCount.{MaxCount}
use Rattle.comp_core.specs.Results.{once_if}
use Rattle.comp_core.specs.TermTests.{is_so_at}

-- one result without a value, where there are more value nodes than the number says
abbrev pub max_count_hits : MaxCount → Graph → At → List ℕ → List ResultRow
max_count_hits c g at vs = once_if (is_so_at (is_more (length vs)) g c.value) MAX_COUNT at
