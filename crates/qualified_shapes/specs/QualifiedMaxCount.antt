-- sh:qualifiedMaxCount with sh:qualifiedValueShape (SHACL, section 4.7.3).
use Rattle.std.specs.Prelude.{ℕ, List}
use Rattle.graph_view.specs.Graph.{Graph}
use Rattle.value_space.specs.Counts.{is_more}
use Rattle.comp_core.specs.declared.pair.At.{At}
use Rattle.comp_core.specs.declared.pair.Pair.{Pair}
use Rattle.comp_core.specs.declared.row.ResultRow.{ResultRow}
use Rattle.comp_core.specs.declared.kinds.TheConstants.{QUALIFIED_MAX_COUNT}
use Rattle.comp_core.specs.Results.{once_if}
use Rattle.comp_core.specs.TermTests.{is_so_at}
use Rattle.qualified_shapes.specs.declared.qualified_max_count.QualifiedMaxCount.{QualifiedMaxCount}
use Rattle.qualified_shapes.specs.Qualified.{qualified_count}

-- one result without a value, where more value nodes than the number says conform to the shape and to none of
-- the siblings
abbrev pub qualified_max_count_hits : QualifiedMaxCount → Graph → (Pair → List ResultRow) → At → List ℕ
    → List ResultRow
qualified_max_count_hits c g m at vs =
    once_if (is_so_at (is_more (qualified_count m c.shape c.siblings.items vs)) g c.value)
    QUALIFIED_MAX_COUNT at
