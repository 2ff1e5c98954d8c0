use Rattle.std.specs.List.{AllWithin}
use Rattle.shx_term.specs.ValidTriples.{IsNotWide}
use Rattle.due_view.proofs.valid.is_none_wide.Given as goal

abbrev pub invariant-loop-id : goal.invariant-loop-id
invariant-loop-id l = AllWithin IsNotWide l.pool.terms 0 l.id
