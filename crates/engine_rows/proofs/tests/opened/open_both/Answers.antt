use Rattle.std.specs.Prelude.{◌≡◌, List, ◌++◌}
use Rattle.std.proofs.Common.{sym, ap, ◌∙◌, subst, append_assoc}
use Rattle.graph_view.specs.ListGraph.{plain_graph}
use Rattle.shx_term.specs.declared.term.Term.{Term}
use Rattle.shape_eval.specs.Plan.{IsKnownPlan, IsPlan, Planned, planned}
use Rattle.shape_eval.specs.Planned.{plan_of}
use Rattle.edit_engine.specs.MayBeAsked.{MayBeAsked}
use Rattle.engine_rows.proofs.AskedLemmas.{may_be_asked}
use Rattle.engine_rows.proofs.tests.opened.open_both.Goals as goal

-- a plan of terms that stay may be asked of the graph
asked : (c : goal.In_ok-read) (plan : Planned) (terms more : List Term) → plan ≡ planned terms plan.shapes
    → IsPlan terms plan.shapes → c.in_ok-read.read.graph.pool.terms ≡ terms ++ more
    → MayBeAsked plan (plain_graph c.in_ok-read.read.graph)
asked c plan terms more is fits stay =
    may_be_asked plan terms (plain_graph c.in_ok-read.read.graph) is fits
    (subst (λ ts. IsKnownPlan ts plan.shapes) (sym stay)
    (c.plans_stay_known.ensures terms more plan.shapes fits.known))
    (c.plans_target_shapes_once.ensures.within terms plan.shapes fits)
    (c.plans_target_shapes_once.ensures.once terms plan.shapes fits) c.in_ok-read.ensures.valid

pub returns : goal.returns
returns c =
    let old = c.in_ok-old in
    let new = c.in_ok-new in
    let behind = new.ensures.terms in
    let read = c.in_ok-read.ensures.terms in (
      asked c (plan_of old.old.plan) old.old.pool.terms (behind.0 ++ read.0) old.ensures.plan
          old.ensures.fits
          (read.1 ∙ ap (λ ts. ts ++ read.0) behind.1 ∙ append_assoc old.old.pool.terms behind.0 read.0),
      asked c (plan_of new.new.plan) new.new.pool.terms read.0 new.ensures.plan new.ensures.fits read.1,
    )
