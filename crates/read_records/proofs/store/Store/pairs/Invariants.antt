use Rattle.read_records.proofs.PairLemmas.{AreFound}
use Rattle.read_records.proofs.store.Store.pairs.Given as goal

abbrev pub invariant-loop-reader : goal.invariant-loop-reader
invariant-loop-reader g l = AreFound l.fn.self.kept l.reader-iterator l.pairs.items
