use Rattle.std.specs.Prelude.{◌≡◌, length}
use Rattle.pair_results.specs.PairResults.{SameChanges}
use Rattle.pair_results.proofs.pair_results.PairResults.commit.Given as goal

abbrev pub invariant-loop : goal.invariant-loop
invariant-loop l =
    record {
      shapes : length l.self.shapes ≡ length l.fn.self.shapes;
      changes : SameChanges l.fn.self l.self;
    }

abbrev pub decreases-loop : goal.decreases-loop
decreases-loop l = length l.self.staged
