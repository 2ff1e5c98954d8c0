use Rattle.std.specs.Prelude.{map}
use Rattle.shape_check.specs.Restrictions.{restriction_among}
use Rattle.shape_check.specs.inner.Told.{told_restriction}
use Rattle.shape_decl.proofs.LeftLemmas.{IsLeft}
use Rattle.shape_check.proofs.restrictions.restriction_among.Given as goal

abbrev pub invariant-loop-row : goal.invariant-loop-row
invariant-loop-row l =
    IsLeft (λ rows. restriction_among (map told_restriction rows) l.predicate) l.rows l.row-index
