use Rattle.std.specs.Prelude.{◌≡◌, length}
use Rattle.pair_results.specs.PairResults.{SameRows}
use Rattle.pair_results.specs.inner.Invariant.{IsCounted}
use Rattle.pair_results.proofs.ShapeLemmas.{entries_of, kept}
use Rattle.pair_results.proofs.pair_results.PairResults.drop_staged.Given as goal

abbrev pub invariant-loop-place : goal.invariant-loop-place
invariant-loop-place l =
    let inside = l.self-inside in
    record {
      shapes : length inside.shapes.items ≡ length l.fn.self.shapes;
      rows : SameRows l.fn.self (kept (entries_of inside.shapes.items) inside.staged.entries);
      counted : IsCounted (kept (entries_of inside.shapes.items) inside.staged.entries) inside.count
          inside.coming;
    }

abbrev pub decreases-loop-place : goal.decreases-loop-place
decreases-loop-place l = length l.self-inside.staged.entries
