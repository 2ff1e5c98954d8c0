use Rattle.std.specs.Prelude.{◌++◌, slice_get}
use Rattle.shape_eval.specs.Plan.{nodes_of}
use Rattle.shape_eval.specs.Planned.{plan_of}
use Rattle.plan_swap.proofs.SameLemmas.{differ_at, same_so_far}
use Rattle.plan_swap.proofs.same_shape.are_same_nodes.Goals as goal

pub returns-then-not-is_same_node : goal.returns-then-not-is_same_node
returns-then-not-is_same_node c =
    differ_at (slice_get (nodes_of (plan_of c.args.old.now).shapes))
    (slice_get (nodes_of (plan_of c.args.new.now).shapes)) (c.args.first.now ++ c.args.then.now)
    (c.args.f.now ++ c.args.t.now) c.loop-i.i c.nth.result c.nth-in-loop-i.result c.is_same_node.result
    c.nth.ensures c.nth-in-loop-i.ensures c.is_same_node.ensures c.if-not-is_same_node.true

pub loop-i-preserved : goal.loop-i-preserved
loop-i-preserved c =
    same_so_far (slice_get (nodes_of (plan_of c.args.old.now).shapes))
    (slice_get (nodes_of (plan_of c.args.new.now).shapes)) (c.args.first.now ++ c.args.then.now)
    (c.args.f.now ++ c.args.t.now) c.loop-i.i c.nth.result c.nth-in-loop-i.result c.nth.ensures
    c.nth-in-loop-i.ensures (c.is_same_node.ensures.0 c.if-not-is_same_node.false) c.loop-i.invariant
