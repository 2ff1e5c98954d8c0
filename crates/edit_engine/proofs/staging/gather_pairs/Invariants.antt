use Rattle.std.proofs.Common.{◌≡◌, ◌++◌, map}
use Rattle.std.specs.Vec.Iter.{into_iter_items, into_iter_len}
use Rattle.edit_engine.specs.inner.Put.{HaveRows, answer_rows, pair_entry}
use Rattle.edit_engine.proofs.LeftLemmas.{IsLeft}
use Rattle.edit_engine.proofs.staging.gather_pairs.Given as goal

abbrev pub invariant-loop-pair : goal.invariant-loop-pair
invariant-loop-pair l = record {
  left : IsLeft l.yielded (into_iter_items l.pair-iterator) l.fn.evaluated.items
      (into_iter_len l.pair-iterator);
  staged : HaveRows (λ found. found.pair) answer_rows l.pool.terms l.yielded l.fn.results l.results;
  gathered : l.all.items ≡ l.fn.all.items ++ map pair_entry l.yielded;
}
