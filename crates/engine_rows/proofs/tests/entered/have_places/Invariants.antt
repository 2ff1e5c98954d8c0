use Rattle.std.specs.Prelude.{◌≡◌}
use Rattle.engine_rows.proofs.tests.entered.have_places.Given as goal

abbrev pub invariant-loop-word : goal.invariant-loop-word
invariant-loop-word l = l.engine.settled ≡ l.fn.engine.settled
