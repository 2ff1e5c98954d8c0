use Rattle.read_records.proofs.GainLemmas.{AreReaders}
use Rattle.read_records.proofs.recall.Recall.mask_change.Given as goal

abbrev pub invariant-loop-pair : goal.invariant-loop-pair
invariant-loop-pair l = AreReaders l.readers.items l.pair-iterator l.initial.pair-iterator
