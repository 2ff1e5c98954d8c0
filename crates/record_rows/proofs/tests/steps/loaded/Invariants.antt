use Rattle.std.specs.List.{IsDistinct}
use Rattle.std.specs.Map.{keys_of}
use Rattle.read_records.specs.Reader.{same_reader}
use Rattle.record_rows.proofs.tests.steps.loaded.Given as goal

abbrev pub invariant-loop-of : goal.invariant-loop-of
invariant-loop-of l = IsDistinct same_reader (keys_of l.entries.items)
