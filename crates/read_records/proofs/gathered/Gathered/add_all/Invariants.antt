use Rattle.std.specs.Prelude.{take}
use Rattle.read_records.specs.inner.Filing.{AddsSome, StaysIn, StandsUnderEach}
use Rattle.read_records.proofs.gathered.Gathered.add_all.Given as goal

abbrev pub invariant-loop-key : goal.invariant-loop-key
invariant-loop-key l = record {
  stay : StaysIn l.fn.self l.self;
  only : AddsSome l.fn.self l.self l.keys l.reader;
  added : StandsUnderEach l.self (take l.key-index l.keys) l.reader;
}
