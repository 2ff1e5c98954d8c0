use Rattle.std.specs.Prelude.{◌≡◌, ◌++◌, map, take}
use Rattle.shape_compile.specs.Constraints.{each_shape, said_by}
use Rattle.shape_compile.specs.inner.Shapes.{shape_kind}
use Rattle.shape_compile.proofs.of_shape.add_of_shape.Given as goal

abbrev pub invariant-loop-value : goal.invariant-loop-value
invariant-loop-value l =
    map (said_by l.order.nodes.keys) l.out.items
    ≡ map (said_by l.order.nodes.keys) l.fn.out.items
    ++ each_shape (shape_kind l.parameter) (take l.value-index l.value-items)
