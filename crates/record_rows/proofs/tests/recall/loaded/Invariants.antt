use Rattle.std.specs.List.{IsDistinct}
use Rattle.std.specs.Map.{keys_of}
use Rattle.comp_core.specs.Pairs.{same_pair}
use Rattle.record_rows.proofs.tests.recall.loaded.Given as goal

abbrev pub invariant-loop-of : goal.invariant-loop-of
invariant-loop-of l = IsDistinct same_pair (keys_of l.answers.items)
