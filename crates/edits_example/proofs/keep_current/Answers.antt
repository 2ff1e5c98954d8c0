use Rattle.std.specs.Prelude.{◌<◌, nat_eq, List, length, All}
use Rattle.std.specs.List.{IsDistinct}
use Rattle.std.proofs.Common.{sym, ap, subst}
use Rattle.std.proofs.lemmas.List.Elements.{All-nil}
use Rattle.shx_term.specs.declared.term.Term.{Term}
use Rattle.graph_view.specs.Valid.{IsValidTriple}
use Rattle.shape_eval.specs.Plan.{IsKnownPlan, Planned}
use Rattle.shape_eval.specs.Planned.{plan_of}
use Rattle.edits_example.proofs.keep_current.Goals as goal

-- the plan may be asked of a graph without triples over the terms of its text
pub open-requires : goal.open-requires
open-requires g c =
    let accepts = c.in-Ok.ensures.accepts in
    let plan = plan_of c.in-Ok.shapes.plan in
    let fits = accepts.plan.fits in
    let law = c.plans_target_shapes_once.ensures in
    let terms = accepts.document.terms in
    let targeted = sym (ap (λ (p : Planned). p.targeted) accepts.plan.judged.1.targeted) in
    rw c.new-graph.ensures (record {
      valid = record {
        triples = All-nil (IsValidTriple c.in-Ok.shapes.pool.terms);
        terms = c.in-Ok.ensures.no_wide;
      };
      known = subst (λ (ts : List Term). IsKnownPlan ts plan.shapes) accepts.terms fits.known;
      refers = fits.refers;
      within = subst (All (λ n. n < length plan.shapes)) targeted (law.within terms plan.shapes fits);
      once = subst (IsDistinct nat_eq) targeted (law.once terms plan.shapes fits);
    })
