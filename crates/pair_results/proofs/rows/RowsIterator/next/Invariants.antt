use Rattle.std.specs.Prelude.{◌≡◌, ◌<◌, All, length}
use Rattle.pair_results.specs.inner.ToCome.{to_come, turns_left}
use Rattle.pair_results.proofs.rows.RowsIterator.next.Given as goal

abbrev pub invariant-loop-self : goal.invariant-loop-self
invariant-loop-self l =
    let ahead = l.self-inside.ahead in
    record {
      shapes : All (λ shape. shape < length ahead.all.now) ahead.shapes.now;
      same : to_come ahead.all.now ahead.shapes.now ahead.nodes ahead.rows.now ≡ l.fn.self;
    }

abbrev pub decreases-loop-self : goal.decreases-loop-self
decreases-loop-self l =
    let ahead = l.self-inside.ahead in
    turns_left ahead.all.now ahead.shapes.now ahead.nodes
