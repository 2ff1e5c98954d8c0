use Rattle.std.specs.Prelude.{◌≡◌, ◌++◌, map, slice_get, take}
use Rattle.shape_eval.specs.Plan.{nodes_of}
use Rattle.shape_eval.specs.Planned.{plan_of}
use Rattle.plan_swap.proofs.same_shape.are_same_nodes.Given as goal

abbrev pub invariant-loop-i : goal.invariant-loop-i
invariant-loop-i l =
    map (slice_get (nodes_of (plan_of l.old).shapes)) (take l.i (l.first ++ l.then))
    ≡ map (slice_get (nodes_of (plan_of l.new).shapes)) (take l.i (l.f ++ l.t))
