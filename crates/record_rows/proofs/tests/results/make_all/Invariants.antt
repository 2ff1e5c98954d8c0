use Rattle.std.specs.Prelude.{◌≡◌, length}
use Rattle.record_rows.proofs.tests.results.make_all.Given as goal

abbrev pub invariant-loop-step : goal.invariant-loop-step
invariant-loop-step l = length l.kept.shapes ≡ 3
