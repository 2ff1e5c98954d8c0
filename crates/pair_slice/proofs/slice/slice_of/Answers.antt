use Rattle.std.proofs.lemmas.List.{take_all}
use Rattle.pair_slice.proofs.SliceLemmas.{found_slice}
use Rattle.pair_slice.proofs.slice.slice_of.Goals as goal

pub returns : goal.returns
returns g c =
    let view = g.V.GraphView.graph c.args.view.now in
    let keys = c.keys-key-items in
    let all = take_all c.loop-key.key-index keys.result.now c.loop-key-test.false in
    rw (
      c.triples_in_order-triples.ensures,
      c.pool.ensures.terms,
      c.loop-key.invariant,
      all,
      keys.ensures.keys,
    ) (found_slice view c.args.reads.now)
