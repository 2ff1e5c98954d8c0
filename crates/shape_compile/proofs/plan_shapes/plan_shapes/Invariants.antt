use Rattle.std.specs.Prelude.{◌≡◌, map, take}
use Rattle.shape_decl.specs.Declarations.{told_decl}
use Rattle.shape_eval.specs.Plan.{nodes_of}
use Rattle.shape_compile.proofs.PlannedLemmas.{AreLeft, AreMeant}
use Rattle.shape_compile.proofs.plan_shapes.plan_shapes.Given as goal

abbrev pub invariant-loop-number : goal.invariant-loop-number
invariant-loop-number l =
    let terms = l.declared.pool.now.terms in
    let ds = map told_decl l.declared.decls.now in
    let nodes = l.order.nodes.keys in record {
      made : nodes_of l.shapes.items ≡ take l.number nodes;
      meant : AreMeant terms ds nodes l.shapes.items;
      left : AreLeft terms ds (take l.number nodes) l.built.items;
    }
