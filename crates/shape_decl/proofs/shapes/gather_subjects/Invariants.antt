use Rattle.std.specs.Prelude.{◌≡◌, ◌++◌, flat_map, take}
use Rattle.shape_decl.specs.Shapes.{subjects_with}
use Rattle.shape_decl.proofs.shapes.gather_subjects.Given as goal

abbrev pub invariant-loop-p : goal.invariant-loop-p
invariant-loop-p g l =
    l.found.items
    ≡ l.fn.found.items ++ flat_map (subjects_with (g.V.GraphView.graph l.graph)) (take l.p-index l.predicates)
