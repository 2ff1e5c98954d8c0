use Rattle.std.specs.Prelude.{◌-◌}
use Rattle.shape_order.specs.Refs.{refs_of}
use Rattle.shape_order.proofs.LeastLemmas.{NoneBelow}
use Rattle.shape_order.proofs.cycles.cycle_in_turn.Given as goal

abbrev pub invariant-loop-cycle : goal.invariant-loop-cycle
invariant-loop-cycle l = NoneBelow (refs_of l.refs) l.known l.shape

abbrev pub decreases-loop-cycle : goal.decreases-loop-cycle
decreases-loop-cycle l = l.known - l.shape
