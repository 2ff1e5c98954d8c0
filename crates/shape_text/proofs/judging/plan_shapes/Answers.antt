use Rattle.shape_eval.specs.declared.plan.Plan.{Plan}
use Rattle.shape_text.specs.Verdict.{BreaksNone}
use Rattle.shape_text.proofs.VerdictLemmas.{unplanned_broken, unplanned_stopped}
use Rattle.shape_text.proofs.judging.plan_shapes.Goals as goal

pub returns-in-Err-clause-refused : goal.returns-in-Err-clause-refused
returns-in-Err-clause-refused g c =
    rw c.check_refusal.ensures
    (unplanned_broken c.args.limits.now (g.V.GraphView.graph c.args.graph.now)
    (g.P.PatternHost.state c.args.patterns.now) c.in-Err.fault c.in-Err.ensures.refused)

pub returns-clause-refused : goal.returns-clause-refused
returns-clause-refused g c =
    let none : BreaksNone c.args.limits.now (g.V.GraphView.graph c.args.graph.now) =
    record { faultless = c.in-Ok.ensures.accepted } in
    let tells = rw (c.pool.ensures.terms, c.deref.ensures.value, c.in-Ok.ensures.declared)
    at c.in-Err-compile.ensures.fault in
    let refused = rw (c.pool.ensures.terms, c.deref.ensures.value, c.in-Ok.ensures.declared)
    at c.in-Err-compile.ensures.refused in
    rw c.compile_refusal.ensures
    (unplanned_stopped Plan c.args.limits.now (g.V.GraphView.graph c.args.graph.now)
    (g.P.PatternHost.state c.args.patterns.now) (g.P.PatternHost.state c.compile.new.patterns)
    c.in-Err-compile.fault none tells c.in-Err-compile.ensures.cause refused)
