use Rattle.std.specs.List.{IsDistinct}
use Rattle.path_eval.proofs.states.States.new.Goals as goal

pub invariant_of-result : goal.invariant_of-result
unfolding IsDistinct
invariant_of-result c = rw c.new.ensures tt
