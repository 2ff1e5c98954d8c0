-- A plan is asked alike of a graph and of one with more terms and the same triples.
use Rattle.std.specs.Prelude.{List, Contains}
use Rattle.std.proofs.Common.{sym, subst}
use Rattle.shx_term.specs.Members.{SameMembers}
use Rattle.shx_term.specs.declared.term.Term.{Term}
use Rattle.shx_term.proofs.SetLemmas.{SameMembers-itself}
use Rattle.graph_view.specs.declared.key.Key.{Key}
use Rattle.graph_view.specs.Agree.{Agree}
use Rattle.graph_view.specs.Graph.{Graph}
use Rattle.graph_view.specs.Valid.{IsValidView}
use Rattle.graph_view.proofs.AgreeLemmas.{AgreeOn-same}
use Rattle.shape_eval.specs.Laws.{NestedDependOnReads, OwnReadsDependOnThemselves, ResultsDependOnReads}
use Rattle.shape_eval.specs.Laws.{TargetsDependOnReads}
use Rattle.shape_eval.specs.Plan.{IsKnownPlan, Planned}
use Rattle.edit_engine.specs.MayBeAsked.{MayBeAsked}
use Rattle.edit_engine.specs.declared.kept.Kept.{Kept}
use Rattle.edit_engine.specs.Applied.{HasMoreTerms}
use Rattle.edit_engine.specs.inner.Kept.{IsKeptOf}
use Rattle.edit_engine.proofs.AlikeLemmas.{AreAlike, IsKeptOf-alike}
use Rattle.edit_engine.proofs.PlanLemmas.{plan_known_more}

MayBeAsked-more : {due : List Term} (plan : Planned) (g h : Graph) → HasMoreTerms due g h → IsValidView h
    → MayBeAsked plan g → MayBeAsked plan h
MayBeAsked-more plan g h more valid asked = record {
  valid = valid;
  known = subst (λ terms. IsKnownPlan terms plan.shapes) (sym more.terms)
      (plan_known_more g.terms more.more plan.shapes asked.known);
  refers = asked.refers;
  within = asked.within;
  once = asked.once;
}

Agree-more : {due : List Term} (g h : Graph) → HasMoreTerms due g h → (keys : List Key)
    → Agree g h (Contains keys)
Agree-more g h more keys = record {
  more = more.more;
  terms = more.terms;
  triples = AgreeOn-same (subst (SameMembers g.triples) (sym more.triples) (SameMembers-itself g.triples));
}

pub AreAlike-entered : {due : List Term} (plan : Planned) (g h : Graph) → MayBeAsked plan g
    → HasMoreTerms due g h → IsValidView h → ResultsDependOnReads → TargetsDependOnReads
    → AreAlike plan g h
AreAlike-entered plan g h asked more valid results_law targets_law = record {
  before = asked;
  after = MayBeAsked-more plan g h more valid asked;
  agree = Agree-more g h more;
  results_law = results_law;
  targets_law = targets_law;
}

-- so all is kept once terms were entered
pub is_kept_again : {due : List Term} (plan : Planned) (g h : Graph) (kept : Kept)
    → MayBeAsked plan g × IsKeptOf plan.shapes plan.targeted g kept → HasMoreTerms due g h → IsValidView h
    → ResultsDependOnReads → TargetsDependOnReads → NestedDependOnReads → OwnReadsDependOnThemselves
    → MayBeAsked plan h × IsKeptOf plan.shapes plan.targeted h kept
is_kept_again plan g h kept whole more valid results_law targets_law nested_law own_law =
    let alike = AreAlike-entered plan g h whole.0 more valid results_law targets_law in
    (alike.after, IsKeptOf-alike plan g h alike nested_law own_law plan.targeted kept whole.1)
