use Rattle.std.proofs.Common.{◌≡◌, map, take}
use Rattle.shape_decl.specs.Declarations.{told_decl}
use Rattle.shape_refs.specs.inner.Places.{nodes_at}
use Rattle.shape_refs.proofs.ordering.nodes_of.Given as goal

abbrev pub invariant-loop-at : goal.invariant-loop-at
invariant-loop-at l = l.nodes.items ≡ nodes_at (map told_decl l.declared.decls.now) (take l.at-index l.places)
