use Rattle.std.specs.Prelude.{◌≡◌, ◌++◌, map, take}
use Rattle.shx_term.specs.declared.vocabulary.TheConstants.{SH_QUALIFIED_VALUE_SHAPE}
use Rattle.shape_decl.specs.Declarations.{told_decl, values_under}
use Rattle.shape_compile.specs.Constraints.{each_count, said_by}
use Rattle.shape_compile.specs.inner.Shapes.{count_kind}
use Rattle.shape_compile.proofs.of_count.add_of_count.Given as goal

abbrev pub invariant-loop-count : goal.invariant-loop-count
invariant-loop-count l =
    map (said_by l.order.nodes.keys) l.out.items
    ≡ map (said_by l.order.nodes.keys) l.fn.out.items
    ++ each_count (count_kind l.parameter) l.siblings
    (values_under (told_decl l.decl) SH_QUALIFIED_VALUE_SHAPE) (take l.count-index l.count-items)
