use Rattle.std.specs.Prelude.{◌≡◌, ℕ, List, ◌++◌, map, take}
use Rattle.shape_decl.specs.Declarations.{told_list}
use Rattle.shape_compile.specs.Constraints.{each_list, said_by}
use Rattle.shape_compile.specs.inner.Shapes.{list_kind}
use Rattle.shape_compile.proofs.of_list.add_of_list.Given as goal

abbrev pub invariant-loop-list : goal.invariant-loop-list
invariant-loop-list l = (nodes : List ℕ) → map (said_by nodes) l.out.items
    ≡ map (said_by nodes) l.fn.out.items
    ++ each_list (list_kind l.parameter) (map told_list (take l.list-index l.list-items))
