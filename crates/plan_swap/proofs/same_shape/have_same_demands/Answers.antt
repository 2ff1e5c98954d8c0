use Rattle.std.proofs.Common.{refl}
use Rattle.std.proofs.lemmas.Option.{slice_get_read}
use Rattle.shape_eval.specs.Content.{demand_of}
use Rattle.shape_eval.specs.Plan.{nodes_of}
use Rattle.shape_eval.specs.Planned.{plan_of}
use Rattle.plan_swap.proofs.SameLemmas.{differ_at}
use Rattle.plan_swap.proofs.same_shape.have_same_demands.Goals as goal

pub returns-then-not-is_same_demand : goal.returns-then-not-is_same_demand
returns-then-not-is_same_demand c =
    differ_at (demand_of (nodes_of (plan_of c.args.old.now).shapes))
    (demand_of (nodes_of (plan_of c.args.new.now).shapes)) c.args.before.now c.args.after.now c.loop-i.i
    c.index-before-i.result c.index-after-i.result c.is_same_demand.result
    (slice_get_read c.args.before.now _ c.loop-i.i c.index-before-i.result refl c.loop-i-test.true
    c.index-before-i.is)
    (slice_get_read c.args.after.now _ c.loop-i.i c.index-after-i.result c.if-before-after.false
    c.loop-i-test.true c.index-after-i.is)
    c.is_same_demand.ensures c.if-not-is_same_demand.true
