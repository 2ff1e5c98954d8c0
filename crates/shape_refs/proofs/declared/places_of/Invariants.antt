use Rattle.std.specs.Prelude.{◌≡◌, nat_eq, [], map, take}
use Rattle.indexmap.specs.IndexSet.{insert_all}
use Rattle.shape_refs.proofs.declared.places_of.Given as goal

abbrev pub invariant-loop-decl : goal.invariant-loop-decl
invariant-loop-decl l = l.places.keys ≡ insert_all nat_eq [] (map (λ d. d.node) (take l.decl-index l.decls))
