use Rattle.std.specs.Prelude.{take}
use Rattle.read_records.specs.inner.Filing.{AddsSome, StaysIn, StandsUnderEach}
use Rattle.read_records.proofs.notes.enter_keys.Given as goal

abbrev pub invariant-loop-key : goal.invariant-loop-key
invariant-loop-key g l = record {
  stay : StaysIn l.fn.readings l.readings;
  only : AddsSome l.fn.readings l.readings l.keys l.reader;
  added : StandsUnderEach l.readings (take l.key-index l.keys) l.reader;
}
