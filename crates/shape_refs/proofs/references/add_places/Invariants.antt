use Rattle.std.specs.Prelude.{◌≡◌, ◌++◌, map, take}
use Rattle.shape_decl.specs.Declarations.{told_decl}
use Rattle.shape_refs.specs.inner.Places.{places_of}
use Rattle.shape_refs.proofs.references.add_places.Given as goal

abbrev pub invariant-loop-node : goal.invariant-loop-node
invariant-loop-node l =
    l.row.items ≡ l.fn.row.items ++ places_of (map told_decl l.declared.decls.now) (take l.node-index l.nodes)
