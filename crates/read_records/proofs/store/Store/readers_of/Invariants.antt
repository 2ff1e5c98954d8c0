use Rattle.std.specs.Prelude.{take}
use Rattle.read_records.proofs.ReachedLemmas.{AreNotedBy}
use Rattle.read_records.proofs.store.Store.readers_of.Given as goal

abbrev pub invariant-loop-key : goal.invariant-loop-key
invariant-loop-key g l = AreNotedBy l.self.kept (take l.key-index l.keys) l.found.items
