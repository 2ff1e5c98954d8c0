use Rattle.std.specs.Prelude.{◌≡◌, ◌∷◌, ◌++◌, Some, map, take}
use Rattle.shape_eval.specs.Content.{Names}
use Rattle.shape_compile.specs.Constraints.{said_by, says}
use Rattle.shape_compile.specs.inner.Shapes.{count_kind}
use Rattle.shape_compile.proofs.of_count.add_at_shapes.Given as goal

abbrev pub invariant-loop-shape : goal.invariant-loop-shape
invariant-loop-shape l =
    map (said_by l.order.nodes.keys) l.out.items
    ≡ map (said_by l.order.nodes.keys) l.fn.out.items
    ++ map (λ shape. says (count_kind l.parameter) (Names (Some shape ∷ map Some l.siblings)) l.count)
    (take l.shape-index l.shape-items)
