-- What a plan is asked of a graph depends on which triples it holds, and not on their order.
use Rattle.std.specs.Prelude.{◌≡◌, ℕ, ◌<◌, Option, length}
use Rattle.std.specs.List.{IsDistinct}
use Rattle.std.proofs.Common.{sym, ap, ◌∙◌, subst}
use Rattle.shx_term.specs.Triple.{same_triple}
use Rattle.shx_term.proofs.SetLemmas.{SameMembers-sym}
use Rattle.edit_history.specs.declared.net.Net.{Net}
use Rattle.graph_view.specs.Graph.{Graph}
use Rattle.graph_view.specs.SameGraph.{SameGraph}
use Rattle.graph_view.proofs.AgreeLemmas.{AgreeOn-same, Agree-on_terms}
use Rattle.comp_core.specs.declared.pair.Pair.{Pair}
use Rattle.shape_eval.specs.Laws.{NestedDependOnReads, ResultsDependOnReads, TargetsDependOnReads}
use Rattle.shape_eval.specs.Nested.{nested_pairs}
use Rattle.shape_eval.specs.Plan.{IsKnownPlan, Planned}
use Rattle.shape_eval.specs.Recalled.{IsRecalled}
use Rattle.shape_eval.specs.Report.{pairs, report}
use Rattle.read_records.specs.Recall.{Answer}
use Rattle.edit_engine.specs.MayBeAsked.{MayBeAsked}
use Rattle.edit_engine.specs.Nets.{IsNetOn, changed_by, graph_after}
use Rattle.edit_engine.specs.Remembered.{BringsFresh}
use Rattle.edit_engine.specs.Touched.{touched_pairs}
use Rattle.edit_engine.proofs.AlikeLemmas.{AreAlike, brings_alike, brings_among, nested_alike, pairs_alike}
use Rattle.edit_engine.proofs.AlikeLemmas.{report_alike, touched_alike, touched_among}
use Rattle.edit_engine.proofs.NetSameLemmas.{SameGraph-after, changed_same}
use Rattle.edit_engine.proofs.ValidEditLemmas.{MayBeAsked-after, valid_members}

pub MayBeAsked-same : (plan : Planned) (g h : Graph) → SameGraph g h → MayBeAsked plan h → MayBeAsked plan g
MayBeAsked-same plan g h same asked = record {
  valid = valid_members h g (sym same.terms) (SameMembers-sym same.triples) asked.valid;
  known = subst (λ terms. IsKnownPlan terms plan.shapes) (sym same.terms) asked.known;
  refers = asked.refers;
  within = asked.within;
  once = asked.once;
}

module _ (results_law : ResultsDependOnReads) (targets_law : TargetsDependOnReads) where
  AreAlike-same : (plan : Planned) (g h : Graph) → SameGraph g h → MayBeAsked plan h → AreAlike plan g h
  AreAlike-same plan g h same asked = record {
    before = MayBeAsked-same plan g h same asked;
    after = asked;
    agree = λ keys. Agree-on_terms (sym same.terms) (AgreeOn-same same.triples);
    results_law = results_law;
    targets_law = targets_law;
  }

  pub pairs-same : (plan : Planned) (g h : Graph) → SameGraph g h → MayBeAsked plan h
      → pairs plan g ≡ pairs plan h
  pairs-same plan g h same asked =
      pairs_alike plan g h (AreAlike-same plan g h same asked) plan.targeted

  pub report-same : (plan : Planned) (g h : Graph) → SameGraph g h → MayBeAsked plan h
      → report plan g ≡ report plan h
  report-same plan g h same asked = report_alike plan g h (AreAlike-same plan g h same asked)

  -- after a change that may be made
  after_same : (plan : Planned) (g h : Graph) (net : Net) → SameGraph g h → MayBeAsked plan h
      → IsDistinct same_triple h.triples → IsNetOn h net
      → AreAlike plan (graph_after g net) (graph_after h net)
  after_same plan g h net same asked distinct fits =
      AreAlike-same plan (graph_after g net) (graph_after h net) (SameGraph-after g h same net distinct)
      (MayBeAsked-after plan h net asked fits)

  pub touched-same : (plan : Planned) (g h : Graph) (net : Net) → SameGraph g h → MayBeAsked plan h
      → IsDistinct same_triple h.triples → IsNetOn h net
      → touched_pairs plan g (graph_after g net) (changed_by g net)
      ≡ touched_pairs plan h (graph_after h net) (changed_by h net)
  touched-same plan g h net same asked distinct fits =
      let alike = AreAlike-same plan g h same asked in
      let after = pairs_alike plan (graph_after g net) (graph_after h net)
      (after_same plan g h net same asked distinct fits) plan.targeted in
      touched_alike plan g h alike (changed_by g net) (graph_after g net)
      ∙ touched_among plan h (graph_after g net) (graph_after h net) after (changed_by g net)
      ∙ ap (touched_pairs plan h (graph_after h net)) (changed_same g h same net)

  -- what becomes of nested pairs
  module _ (nested_law : NestedDependOnReads) where
    pub nested-same : (plan : Planned) (g h : Graph) → SameGraph g h → MayBeAsked plan h
        → nested_pairs plan g ≡ nested_pairs plan h
    nested-same plan g h same asked =
        nested_alike plan g h (AreAlike-same plan g h same asked) nested_law

    pub fresh-same : (plan : Planned) (g h : Graph) (net : Net) → SameGraph g h → MayBeAsked plan h
        → IsDistinct same_triple h.triples → IsNetOn h net → (old new : Pair → Option Answer)
        (before after : ℕ) → ((p : Pair) → IsRecalled old p → p.node < length h.terms)
        → BringsFresh plan h (graph_after h net) (changed_by h net) old new before after
        → BringsFresh plan g (graph_after g net) (changed_by g net) old new before after
    fresh-same plan g h net same asked distinct fits old new before after inside brings =
        let nested = nested_alike plan (graph_after g net) (graph_after h net)
        (after_same plan g h net same asked distinct fits) nested_law in
        subst (λ changed. BringsFresh plan g (graph_after g net) changed old new before after)
        (sym (changed_same g h same net))
        (brings_among plan g (graph_after g net) (graph_after h net) nested (changed_by h net) old new before
        after
        (brings_alike plan g h (AreAlike-same plan g h same asked) (graph_after h net) (changed_by h net) old
        new before after
        (λ p there. subst (λ terms. p.node < length terms) (sym same.terms) (inside p there))
        brings))
