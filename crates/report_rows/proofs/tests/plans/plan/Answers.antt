use Rattle.std.proofs.Common.{sym, subst}
use Rattle.shape_eval.specs.Plan.{IsPlan}
use Rattle.report_rows.proofs.BareLemmas.{plan_of_one}
use Rattle.report_rows.proofs.tests.plans.plan.Goals as goal

pub from_shapes-requires : goal.from_shapes-requires
from_shapes-requires c =
    let terms = c.args.pool.now.terms in
    subst (IsPlan terms) (sym c.in_ok-shapes.ensures.items)
    (plan_of_one terms _ c.in_ok-shape.ensures)
