use Rattle.std.specs.Prelude.{take}
use Rattle.read_records.specs.Store.{SameNotes}
use Rattle.read_records.specs.inner.Masks.{AreStaged, MasksAmong}
use Rattle.read_records.proofs.store.Store.mask.Given as goal

abbrev pub invariant-loop-reader : goal.invariant-loop-reader
invariant-loop-reader g l = record {
  same : SameNotes l.fn.self l.self;
  only : MasksAmong l.fn.self l.self l.readers;
  staged : AreStaged l.self (take l.reader-index l.readers);
}
