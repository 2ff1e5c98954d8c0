use Rattle.std.specs.Prelude.{map}
use Rattle.shape_decl.specs.Declarations.{told_values, values_among}
use Rattle.shape_decl.proofs.LeftLemmas.{IsLeft}
use Rattle.shape_decl.proofs.declaration.ShapeDecl.values_of.Given as goal

abbrev pub invariant-loop-row : goal.invariant-loop-row
invariant-loop-row l =
    IsLeft (λ rows. values_among (map told_values rows) l.predicate) l.row-items l.row-index
