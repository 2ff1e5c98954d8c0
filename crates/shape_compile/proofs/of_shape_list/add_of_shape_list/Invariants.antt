use Rattle.std.specs.Prelude.{◌≡◌, ◌++◌, map, take}
use Rattle.shape_decl.specs.Declarations.{told_list}
use Rattle.shape_compile.specs.Constraints.{each_shape_list, said_by}
use Rattle.shape_compile.specs.inner.Shapes.{shape_list_kind}
use Rattle.shape_compile.proofs.of_shape_list.add_of_shape_list.Given as goal

abbrev pub invariant-loop-list : goal.invariant-loop-list
invariant-loop-list l =
    map (said_by l.order.nodes.keys) l.out.items
    ≡ map (said_by l.order.nodes.keys) l.fn.out.items
    ++ each_shape_list (shape_list_kind l.parameter) (map told_list (take l.list-index l.list-items))
