use Rattle.std.specs.Prelude.{◌≡◌, map, take}
use Rattle.shape_eval.specs.Content.{demand_of}
use Rattle.shape_eval.specs.Plan.{nodes_of}
use Rattle.shape_eval.specs.Planned.{plan_of}
use Rattle.plan_swap.proofs.same_shape.have_same_demands.Given as goal

abbrev pub invariant-loop-i : goal.invariant-loop-i
invariant-loop-i l =
    map (demand_of (nodes_of (plan_of l.old).shapes)) (take l.i l.before)
    ≡ map (demand_of (nodes_of (plan_of l.new).shapes)) (take l.i l.after)
