use Rattle.std.specs.Prelude.{take}
use Rattle.read_records.specs.inner.Reached.{AddsParts}
use Rattle.read_records.proofs.reached.add_parts.Given as goal

abbrev pub invariant-loop-key : goal.invariant-loop-key
invariant-loop-key l =
    AddsParts (take l.key-index l.key-items) l.fn.answers.keys l.answers.keys l.fn.all l.all
