use Rattle.edit_engine.proofs.LeavingLemmas.{AlsoLeave-take_one}
use Rattle.edit_engine.proofs.renewal.Renewal.leave.Goals as goal

pub loop-node-preserved : goal.loop-node-preserved
loop-node-preserved c =
    let others = c.loop-node.invariant.others in
    record {
      leaving = AlsoLeave-take_one c.args.shape c.args.nodes.now c.loop-node.node-index 0
          c.loop-node-test.true c.in_ok-insert.ensures.keys c.loop-node.invariant.leaving;
      others = record {
        targets = others.targets;
        entering = others.entering;
        evaluated = others.evaluated;
      };
    }
