use Rattle.std.specs.Prelude.{◌≡◌, ◌++◌, map, take}
use Rattle.shape_decl.proofs.shapes.add_objects.Given as goal

abbrev pub invariant-loop-t : goal.invariant-loop-t
invariant-loop-t l = l.found.items ≡ l.fn.found.items ++ map (λ t. t.o) (take l.t-index l.triples)
