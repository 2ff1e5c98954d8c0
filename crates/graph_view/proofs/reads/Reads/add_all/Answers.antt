use Rattle.shx_term.proofs.SetLemmas.{Adds-take_one}
use Rattle.graph_view.proofs.reads.Reads.add_all.Goals as goal

pub loop-key-preserved : goal.loop-key-preserved
loop-key-preserved c =
    Adds-take_one c.keys-key-items.result.now c.loop-key.key-index _ c.loop-key-test.true
    c.loop-key.invariant c.in_ok-add.ensures.added
