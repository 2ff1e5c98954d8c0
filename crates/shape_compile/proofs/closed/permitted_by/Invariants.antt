use Rattle.std.specs.Prelude.{◌≡◌, flat_map, map, take}
use Rattle.shape_decl.specs.Declarations.{told_decl}
use Rattle.shape_refs.specs.References.{declared_at}
use Rattle.shape_compile.specs.Constraints.{predicate_of}
use Rattle.shape_compile.proofs.closed.permitted_by.Given as goal

abbrev pub invariant-loop-node : goal.invariant-loop-node
invariant-loop-node l =
    l.found.items
    ≡ flat_map (λ node. flat_map (λ shape. predicate_of shape.path)
    (declared_at (map told_decl l.declared.decls.now) node)) (take l.node-index l.node-items)
