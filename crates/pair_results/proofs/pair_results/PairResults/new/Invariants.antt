use Rattle.std.specs.Prelude.{◌≡◌, [], All, length}
use Rattle.pair_results.proofs.pair_results.PairResults.new.Given as goal

abbrev pub invariant-loop : goal.invariant-loop
invariant-loop l =
    record {
      count : length l.all.items ≡ l.counter;
      empty : All (λ nodes. nodes.entries ≡ []) l.all.items;
    }
