use Rattle.path_eval.proofs.RowLemmas.{Enters-next}
use Rattle.path_eval.proofs.rows.by_place.Goals as goal

pub loop-edge-preserved : goal.loop-edge-preserved
loop-edge-preserved c =
    Enters-next c.loop-edge.rows.items c.enter.new.rows.items c.args.edges.now c.loop-edge.edge-index _
    c.loop-edge-test.true c.loop-edge.invariant c.in_ok-enter.ensures
