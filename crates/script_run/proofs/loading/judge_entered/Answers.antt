use Rattle.std.proofs.Common.{List, sym, subst, ap, ◌∙◌}
use Rattle.std.specs.Prelude.{All}
use Rattle.std.proofs.lemmas.Result.{IfOk-weaker}
use Rattle.shx_term.specs.declared.limits.Limits.{Limits}
use Rattle.shx_term.specs.declared.term.Term.{Term}
use Rattle.graph_view.specs.Graph.{Graph, IsKnownTriple, graph_of}
use Rattle.shape_compile.specs.Patterns.{AreAdmitted}
use Rattle.shape_decl.specs.Declarations.{declarations}
use Rattle.shape_eval.specs.Planned.{plan_of}
use Rattle.shape_text.specs.Judging.{PlansAs, StopsAs}
use Rattle.script_run.specs.Work.{evaluating}
use Rattle.script_run.specs.inner.Loading.{over_terms}
use Rattle.script_run.proofs.EnteredLemmas.{IsScriptRun-grown, MayGoOn-grown}
use Rattle.script_run.proofs.LoadingLemmas.{on_each_err, told_running}
use Rattle.script_run.proofs.TakenShapesLemmas.{Comes-taken, MayBeAsked-planned}
use Rattle.script_run.proofs.UnplannedLemmas.{Comes-stopped, MovesOn-shapes, TellsRefusal-stopped}
use Rattle.script_run.proofs.loading.judge_entered.Goals as goal

pub plan_stated-requires : goal.plan_stated-requires
plan_stated-requires g c =
    let entered = c.args.entered.now in
    let terms = c.pool-pool.ensures.terms ∙ ap (λ (g : Graph). g.terms) c.view.ensures.graph in
    record {
      usable = c.requires.usable;
      known = subst (λ (ts : List Term). All (IsKnownTriple ts) entered) (sym terms) c.requires.known;
      admitted = subst (λ (ts : List Term). AreAdmitted (g.P.PatternHost.admits c.args.patterns.now) ts
          (declarations c.args.limits.now (graph_of ts entered))) (sym terms) c.requires.admitted;
    }

pub take_plan-requires : goal.take_plan-requires
take_plan-requires g c =
    let script = c.args.script.now in
    let graph = script.engine.graph in
    let plan = plan_of c.in-Ok.plan in
    let terms = c.pool-pool.ensures.terms ∙ ap (λ (g : Graph). g.terms) c.view.ensures.graph in
    let fits = c.in-Ok.ensures.plan.fits in
    let law = c.plans_target_shapes_once.ensures in
    let held = c.pool-pool.result.now.terms in
    record {
      few = c.requires.few;
      goes_on = MayGoOn-grown c.args.held script c.requires.goes_on c.requires.below c.view.ensures.distinct
          c.view.ensures.asked.valid;
      asked = MayBeAsked-planned c.args.limits.now graph (graph_of held c.args.entered.now)
          (g.P.PatternHost.state c.args.patterns.now) (g.P.PatternHost.state c.plan_stated.new.patterns) plan
          c.in-Ok.ensures.plan terms c.view.ensures.asked.valid (law.within held plan.shapes fits)
          (law.once held plan.shapes fits);
    }

pub returns-in-Ok-clause-comes : goal.returns-in-Ok-clause-comes
returns-in-Ok-clause-comes g c = λ manner s same is.
    let script = c.args.script.now in
    let entered = c.args.entered.now in
    let terms = c.pool-pool.ensures.terms ∙ ap (λ (g : Graph). g.terms) c.view.ensures.graph in
    let before = g.P.PatternHost.state c.args.patterns.now in
    let after = g.P.PatternHost.state c.plan_stated.new.patterns in
    let plan = plan_of c.in-Ok.plan in
    let beside = over_terms s script.engine.graph.terms in
    let stated = graph_of script.engine.graph.terms entered in
    let plans : PlansAs manner.limits stated before after plan =
    subst (λ (l : Limits). PlansAs l stated before after plan) (sym same)
    (subst (λ (ts : List Term). PlansAs c.args.limits.now (graph_of ts entered) before after plan) terms
    c.in-Ok.ensures.plan) in
    let taken = c.take_plan in
    let work = evaluating c.args.steps.now c.args.nested.now in
    let work' = evaluating taken.new.steps taken.new.nested in
    IfOk-weaker taken.result _ _
    (λ reply by. Comes-taken manner s beside stated plan before after reply taken.new.script after.refused
    work work' (sym is.halted_is ∙ c.requires.running) plans by)
    (taken.ensures.taken manner (record s { graph = beside })
    (IsScriptRun-grown manner.limits manner.format s c.args.held script is))

pub returns-in-Ok-clause-patterns : goal.returns-in-Ok-clause-patterns
returns-in-Ok-clause-patterns g c =
    told_running c.take_plan.result (g.P.PatternHost.state c.args.patterns.now).faults
    (g.P.PatternHost.state c.plan_stated.new.patterns).faults c.take_plan.new.script
    (c.take_plan.ensures.running ∙ c.requires.running) c.in-Ok.ensures.plan.patterns

pub returns-in-Ok-clause-patterns_still : goal.returns-in-Ok-clause-patterns_still
returns-in-Ok-clause-patterns_still g c = on_each_err c.take_plan.result c.in-Ok.ensures.plan.patterns

pub returns-in-Err-Text-clause-comes : goal.returns-in-Err-Text-clause-comes
returns-in-Err-Text-clause-comes g c = λ manner s same is.
    let script = c.args.script.now in
    let entered = c.args.entered.now in
    let terms = c.pool-pool.ensures.terms ∙ ap (λ (g : Graph). g.terms) c.view.ensures.graph in
    let before = g.P.PatternHost.state c.args.patterns.now in
    let after = g.P.PatternHost.state c.plan_stated.new.patterns in
    let stated = graph_of script.engine.graph.terms entered in
    let answer = c.in-Err-Text.answer in
    let refused = c.refuse_shapes in
    Comes-stopped manner s c.args.held script refused.new.script answer refused.result is c.requires.running
    stated before after (evaluating c.args.steps.now c.args.nested.now)
    (rw c.in-Err-Text.field-0-is at refused.ensures)
    (subst (λ (l : Limits). StopsAs l stated before after answer) (sym same)
    (subst (λ (ts : List Term). StopsAs c.args.limits.now (graph_of ts entered) before after answer) terms
    (rw c.in-Err-Text.field-0-is at c.in-Err-Text.ensures.refused)))

pub returns-in-Err-Text-clause-moves : goal.returns-in-Err-Text-clause-moves
returns-in-Err-Text-clause-moves g c =
    let script = c.args.script.now in
    let may = MayGoOn-grown c.args.held script c.requires.goes_on c.requires.below c.view.ensures.distinct
    c.view.ensures.asked.valid in
    MovesOn-shapes c.args.held c.in-Err-Text.answer _ script c.refuse_shapes.new.script c.refuse_shapes.result
    (rw c.in-Err-Text.field-0-is at c.refuse_shapes.ensures) may c.requires.goes_on
    (evaluating c.args.steps.now c.args.nested.now)

pub returns-in-Err-Text-clause-patterns : goal.returns-in-Err-Text-clause-patterns
returns-in-Err-Text-clause-patterns g c =
    TellsRefusal-stopped c.args.limits.now c.args.held c.args.script.now c.refuse_shapes.new.script
    c.in-Err-Text.answer c.refuse_shapes.result c.requires.running _
    (g.P.PatternHost.state c.args.patterns.now) (g.P.PatternHost.state c.plan_stated.new.patterns)
    (rw c.in-Err-Text.field-0-is at c.refuse_shapes.ensures)
    (rw c.in-Err-Text.field-0-is at c.in-Err-Text.ensures.refused)
