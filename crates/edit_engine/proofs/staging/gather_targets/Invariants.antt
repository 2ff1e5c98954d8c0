use Rattle.std.proofs.Common.{◌≡◌, ◌++◌, map}
use Rattle.std.specs.Vec.Iter.{into_iter_items, into_iter_len}
use Rattle.edit_engine.specs.inner.Put.{target_entry}
use Rattle.edit_engine.proofs.LeftLemmas.{IsLeft}
use Rattle.edit_engine.proofs.staging.gather_targets.Given as goal

abbrev pub invariant-loop-shape : goal.invariant-loop-shape
invariant-loop-shape l = record {
  left : IsLeft l.yielded (into_iter_items l.shape-iterator) l.fn.targets.items
      (into_iter_len l.shape-iterator);
  gathered : l.all.items ≡ l.fn.all.items ++ map target_entry l.yielded;
}
