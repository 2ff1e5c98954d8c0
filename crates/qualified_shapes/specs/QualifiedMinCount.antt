-- sh:qualifiedMinCount with sh:qualifiedValueShape (SHACL, section 4.7.3).
use Rattle.std.specs.Prelude.{ℕ, List}
use Rattle.graph_view.specs.Graph.{Graph}
use Rattle.value_space.specs.Counts.{is_fewer}
use Rattle.comp_core.specs.declared.pair.At.{At}
use Rattle.comp_core.specs.declared.pair.Pair.{Pair}
use Rattle.comp_core.specs.declared.row.ResultRow.{ResultRow}
use Rattle.comp_core.specs.declared.kinds.TheConstants.{QUALIFIED_MIN_COUNT}
use Rattle.comp_core.specs.Results.{once_if}
use Rattle.comp_core.specs.TermTests.{is_so_at}
use Rattle.qualified_shapes.specs.declared.qualified_min_count.QualifiedMinCount.{QualifiedMinCount}
use Rattle.qualified_shapes.specs.Qualified.{qualified_count}

-- one result without a value, where fewer value nodes than the number says conform to the shape and to none
-- of the siblings
abbrev pub qualified_min_count_hits : QualifiedMinCount → Graph → (Pair → List ResultRow) → At → List ℕ
    → List ResultRow
qualified_min_count_hits c g m at vs =
    once_if (is_so_at (is_fewer (qualified_count m c.shape c.siblings.items vs)) g c.value)
    QUALIFIED_MIN_COUNT at
