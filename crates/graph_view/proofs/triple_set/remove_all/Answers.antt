use Rattle.graph_view.proofs.ExchangeLemmas.{without-none, without-take}
use Rattle.graph_view.proofs.TripleSetLemmas.{IsWithout-remove}
use Rattle.graph_view.proofs.triple_set.remove_all.Goals as goal

pub loop-t-init : goal.loop-t-init
loop-t-init c = without-none c.args.triples.now.keys

pub loop-t-preserved : goal.loop-t-preserved
loop-t-preserved c =
    let keys = c.loop-t.triples.keys in
    let left = c.swap_remove.new.self.keys in
    without-take c.args.triples.now.keys c.args.removed.now c.loop-t.t-index _ c.loop-t-test.true keys left
    c.loop-t.invariant (IsWithout-remove keys left _ c.swap_remove.ensures.updates.0)
