use Rattle.std.proofs.Common.{◌≡◌, nat_eq, [], map, take}
use Rattle.indexmap.specs.IndexSet.{insert_all}
use Rattle.shape_decl.specs.Declarations.{told_decl}
use Rattle.shape_refs.specs.inner.Places.{nodes_at}
use Rattle.shape_refs.proofs.ordering.nodes_in.Given as goal

abbrev pub invariant-loop-at : goal.invariant-loop-at
invariant-loop-at l =
    l.nodes.keys
    ≡ insert_all nat_eq [] (nodes_at (map told_decl l.declared.decls.now) (take l.at-index l.places))
