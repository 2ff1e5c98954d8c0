use Rattle.path_eval.specs.inner.States.{state_at}
use Rattle.path_eval.proofs.JoinLemmas.{Joins-none, Joins-take_image}
use Rattle.path_eval.proofs.states.States.add_all.Goals as goal

pub loop-node-init : goal.loop-node-init
loop-node-init c = Joins-none c.args.self.now

pub loop-node-preserved : goal.loop-node-preserved
loop-node-preserved c =
    Joins-take_image (state_at c.args.place) c.args.nodes.now c.loop-node.node-index _ c.loop-node-test.true
    c.loop-node.invariant c.in_ok-add.ensures
