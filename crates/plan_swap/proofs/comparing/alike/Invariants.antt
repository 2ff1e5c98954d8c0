use Rattle.shape_eval.specs.Planned.{plan_of}
use Rattle.plan_swap.specs.inner.Stated.{AreFoundBelow}
use Rattle.plan_swap.proofs.comparing.alike.Given as goal

abbrev pub invariant-loop-n : goal.invariant-loop-n
invariant-loop-n l = AreFoundBelow (plan_of l.old).shapes (plan_of l.new).shapes l.n l.found.items
