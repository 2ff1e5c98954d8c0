use Rattle.std.specs.Prelude.{◌≡◌, drop}
use Rattle.shape_decl.proofs.LeftLemmas.{lists_left}
use Rattle.shape_decl.proofs.declaration.ShapeDecl.lists_of.Given as goal

abbrev pub invariant-loop-row : goal.invariant-loop-row
invariant-loop-row l =
    lists_left l.predicate l.self.values.items l.self.lists.items
    ≡ lists_left l.predicate (drop l.row-index l.row-items) l.lists
