use Rattle.std.specs.Prelude.{map, take}
use Rattle.path_eval.specs.inner.Reached.{Joins}
use Rattle.path_eval.specs.inner.States.{state_at}
use Rattle.path_eval.proofs.states.States.add_all.Given as goal

abbrev pub invariant-loop-node : goal.invariant-loop-node
invariant-loop-node l = Joins l.fn.self (map (state_at l.place) (take l.node-index l.nodes)) l.self
