use Rattle.std.specs.Prelude.{◌≡◌, map, take}
use Rattle.shape_decl.specs.Declarations.{declaration_of, told_decl}
use Rattle.shape_decl.specs.inner.Kept.{IsKnownOf}
use Rattle.shape_decl.proofs.collecting.declare_shapes.Given as goal

abbrev pub invariant-loop-node : goal.invariant-loop-node
invariant-loop-node g l = record {
  decls : map told_decl l.decls.items
      ≡ map (declaration_of l.limits (g.V.GraphView.graph l.graph)) (take l.node-index l.nodes);
  known : IsKnownOf l.limits (g.V.GraphView.graph l.graph) l.known;
}
