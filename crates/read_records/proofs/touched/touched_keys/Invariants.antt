use Rattle.std.specs.Prelude.{map}
use Rattle.read_records.proofs.TouchedLemmas.{AreKeysOf}
use Rattle.read_records.proofs.touched.touched_keys.Given as goal

abbrev pub invariant-loop-t : goal.invariant-loop-t
invariant-loop-t l = AreKeysOf (map (λ t. t.now) l.yielded) l.keys.items
