use Rattle.std.specs.Prelude.{◌<◌, All}
use Rattle.record_rows.proofs.tests.results.shapes_of.Given as goal

abbrev pub invariant-loop-word : goal.invariant-loop-word
invariant-loop-word l = All (λ shape. shape < 3) l.shapes.items
