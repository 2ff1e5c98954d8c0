use Rattle.shx_term.proofs.SetLemmas.{Adds-insert, Adds-take_one}
use Rattle.graph_view.specs.Key.{same_key}
use Rattle.graph_view.specs.inner.KeyLaws.{same_key_equiv, same_key_exact}
use Rattle.graph_view.proofs.keys.hashed.Goals as goal

pub loop-key-preserved : goal.loop-key-preserved
loop-key-preserved c =
    rw c.in_ok-insert.ensures.keys
    (Adds-take_one c.args.keys.now c.loop-key.key-index _ c.loop-key-test.true c.loop-key.invariant
    (Adds-insert same_key same_key_equiv same_key_exact c.loop-key.all.keys _))
