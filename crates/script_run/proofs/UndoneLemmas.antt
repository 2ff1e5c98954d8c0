-- Undo gives back the triples of before, and redo those behind the edits.
use Rattle.std.specs.Prelude.{◌≡◌, ◌-◌, ◌<◌, ◌==◌, true, false, Contains, List, [], ◌∷◌, ◌++◌, None}
use Rattle.std.specs.Prelude.{Some, drop, if◌then◌else◌, length, slice_get, take}
use Rattle.std.proofs.Common.{refl, sym, ap, ◌∙◌, subst, arith, length-append}
use Rattle.std.proofs.Math.Seq.{get_or-append_seam}
use Rattle.std.proofs.lemmas.Bool.{ne_eqb}
use Rattle.std.proofs.lemmas.List.{drop-append-le}
use Rattle.std.proofs.lemmas.Option.{slice_get-get_or}
use Rattle.shx_term.specs.declared.edit.Edit.{Edit}
use Rattle.shx_term.specs.declared.limits.Limits.{Limits}
use Rattle.shx_term.specs.declared.term.Term.{Term}
use Rattle.shx_term.specs.Limits.{AreUsable}
use Rattle.shx_term.specs.Members.{SameMembers}
use Rattle.shx_term.proofs.MemberLemmas.{All_of_each}
use Rattle.shx_term.proofs.SetLemmas.{SameMembers-sym}
use Rattle.edit_history.specs.declared.net.Net.{Net}
use Rattle.edit_history.specs.History.{Past, entered as entered_past, history_after, redo_change, undo_change}
use Rattle.graph_view.specs.Graph.{Graph}
use Rattle.graph_view.specs.SameGraph.{SameGraph}
use Rattle.graph_view.specs.Valid.{IsValidView}
use Rattle.graph_view.proofs.SameGraphLemmas.{length-same}
use Rattle.shape_eval.specs.Plan.{IsKnownPlan, Planned}
use Rattle.shape_eval.specs.Report.{report}
use Rattle.edit_engine.specs.Applied.{HasMoreTerms}
use Rattle.edit_engine.specs.Edits.{net_of}
use Rattle.edit_engine.specs.MayBeAsked.{MayBeAsked}
use Rattle.edit_engine.specs.Nets.{Effect, IsNetOn, turned}
use Rattle.edit_engine.proofs.CourseLemmas.{course_back}
use Rattle.edit_engine.proofs.EffectLemmas.{IsNetOn-edits}
use Rattle.edit_engine.proofs.PlanLemmas.{plan_known_more}
use Rattle.edit_engine.proofs.SoundLemmas.{Extends, IsSound-whole}
use Rattle.edit_engine.proofs.TakenBackLemmas.{Extends-back}
use Rattle.edit_engine.proofs.ValidEditLemmas.{MayBeAsked-after, valid_members}
use Rattle.script_run.specs.Script.{change_step, make_again, past_of, take_back}
use Rattle.script_run.specs.ScriptState.{ScriptState}
use Rattle.script_run.specs.Undone.{HaveEffect, StandsWell, after_edits, after_redo, after_undo}
use Rattle.script_run.specs.Undone.{made_again, taken_back}
use Rattle.script_run.proofs.StandsWellLemmas.{Stands-again, Stands-back, Stands-change, same_itself}

-- ---- the last change

last_of : (nets : List Net) (net : Net)
    → slice_get (nets ++ net ∷ []) (length (nets ++ net ∷ []) - 1) ≡ Some net
last_of nets net =
    let all = nets ++ net ∷ [] in
    let long = length-append nets (net ∷ []) in
    let place : length all - 1 ≡ length nets = omega (arith, long) in
    ap (slice_get all) place ∙ slice_get-get_or all (length nets) net (omega (arith, long))
    ∙ ap Some (get_or-append_seam nets net [] net)

some_made : (nets : List Net) (net : Net) → (length (nets ++ net ∷ []) == 0) ≡ false
some_made nets net =
    let long = length-append nets (net ∷ []) in
    ne_eqb (length (nets ++ net ∷ [])) 0 (λ none. absurd (omega (arith, long, none)))

module _ (past : Past) (net : Net) (some : 0 < past.depth) where
  abbrev new : List Net
  new = history_after past net

  -- a change that is new is the last that is kept
  new_is : (front : List Net) × (new ≡ front ++ net ∷ [])
  new_is =
      let made = take past.cursor past.changes in
      let all = made ++ net ∷ [] in
      let n = length all - past.depth in
      let long = length-append made (net ∷ []) in
      (drop n made, drop-append-le n made (net ∷ []) (omega (arith, long, some)))

  undo_last : undo_change (entered_past past net) ≡ Some net
  undo_last =
      let front = new_is.0 in
      subst (λ nets. (if length nets == 0 then None else slice_get nets (length nets - 1)) ≡ Some net)
      (sym new_is.1)
      (ap (λ b. if b then None else slice_get (front ++ net ∷ []) (length (front ++ net ∷ []) - 1))
      (some_made front net) ∙ last_of front net)

  redo_last : slice_get new (length new - 1) ≡ Some net
  redo_last =
      subst (λ nets. slice_get nets (length nets - 1) ≡ Some net) (sym new_is.1) (last_of new_is.0 net)

-- ---- the report over more terms

-- the two laws of reports, as the laws of the engine say them
abbrev pub SameGraphsAnswerAlike : Type 0
SameGraphsAnswerAlike =
    (plan : Planned) (g h : Graph) → SameGraph g h → MayBeAsked plan h → report plan g ≡ report plan h

abbrev pub EnteredTermsChangeNoReport : Type 0
EnteredTermsChangeNoReport =
    (plan : Planned) (due : List Term) (g h : Graph) → MayBeAsked plan g → HasMoreTerms due g h
    → IsValidView h → report plan h ≡ report plan g

-- the same triples have the same report, in another order and over more terms
report_extends : SameGraphsAnswerAlike → EnteredTermsChangeNoReport → (plan : Planned) (g h : Graph)
    → Extends g h → IsValidView h → MayBeAsked plan g → report plan h ≡ report plan g
report_extends alike same_entered plan g h extends valid asked =
    let between : Graph = record { terms = h.terms; triples = g.triples } in
    let members = SameMembers-sym extends.triples in
    let valid_between : IsValidView between = valid_members h between refl members valid in
    alike plan h between (record {
      terms = refl;
      triples = members;
      count = length-same h.triples g.triples members extends.new.once extends.old.once;
    }) (record {
      valid = valid_between;
      known = subst (λ terms. IsKnownPlan terms plan.shapes) (sym extends.terms)
          (plan_known_more g.terms extends.more plan.shapes asked.known);
      refers = asked.refers;
      within = asked.within;
      once = asked.once;
    })
    ∙ same_entered plan extends.more g between asked (record {
      more = extends.more;
      among = All_of_each (Contains extends.more) extends.more (λ t c. c);
      terms = extends.terms;
      triples = refl;
    }) valid_between

-- ---- given back

module _ (limits : Limits) (s : ScriptState) (all : List Edit) (usable : AreUsable limits)
    (well : StandsWell limits s) (have : HaveEffect limits s all) where
  abbrev net : Net
  net = net_of s.graph all

  abbrev edited : ScriptState
  edited = (change_step limits s net Effect).state

  abbrev undone : ScriptState
  undone = (take_back edited (Some net)).state

  abbrev redone : ScriptState
  redone = (make_again undone (Some net)).state

  undo_finds : undo_change (past_of limits edited) ≡ Some net
  undo_finds = undo_last (past_of limits s) net usable.history

  redo_finds : redo_change (past_of limits undone) ≡ Some net
  redo_finds = redo_last (past_of limits s) net usable.history

  edited_is : after_edits limits s all ≡ edited
  edited_is = ap (λ o. (change_step limits s net o).state) have.effect

  undone_is : taken_back limits s all ≡ undone
  undone_is = ap (after_undo limits) edited_is ∙ ap (λ found. (take_back edited found).state) undo_finds

  redone_is : made_again limits s all ≡ redone
  redone_is = ap (after_redo limits) undone_is ∙ ap (λ found. (make_again undone found).state) redo_finds

  fits : IsNetOn s.graph net
  fits = IsNetOn-edits s.graph all have.valid

  edited_well : StandsWell limits edited
  edited_well = Stands-change limits s well net fits Effect have.effect

  undone_well : StandsWell limits undone
  undone_well = Stands-back limits edited edited_well (Some net) undo_finds

  redone_well : StandsWell limits redone
  redone_well = Stands-again limits undone undone_well (Some net) redo_finds

  -- the triples of before, over more terms
  undone_extends : Extends s.graph undone.graph
  undone_extends =
      Extends-back s.graph edited.graph net (IsSound-whole limits.triples s.graph well.graph) fits
      (same_itself edited.graph) well.graph.valid

  redone_extends : Extends edited.graph redone.graph
  redone_extends =
      let ready = course_back limits.triples edited.graph (past_of limits edited) net edited_well.course
      undo_finds in
      Extends-back edited.graph undone.graph (turned true net)
      (IsSound-whole limits.triples edited.graph edited_well.graph) ready.fits (same_itself undone.graph)
      edited_well.graph.valid

  pub triples_back : SameMembers (taken_back limits s all).graph.triples s.graph.triples
  triples_back =
      subst (λ (t : ScriptState). SameMembers t.graph.triples s.graph.triples) (sym undone_is)
      (SameMembers-sym undone_extends.triples)

  pub triples_again : SameMembers (made_again limits s all).graph.triples
      (after_edits limits s all).graph.triples
  triples_again =
      subst (λ (t : ScriptState). SameMembers t.graph.triples (after_edits limits s all).graph.triples)
      (sym redone_is)
      (subst (λ (t : ScriptState). SameMembers redone.graph.triples t.graph.triples) (sym edited_is)
      (SameMembers-sym redone_extends.triples))

  module _ (alike : SameGraphsAnswerAlike) (same_entered : EnteredTermsChangeNoReport)
      (asked : MayBeAsked s.plan s.graph) where
    pub report_back : report s.plan (taken_back limits s all).graph ≡ report s.plan s.graph
    report_back =
        ap (λ (t : ScriptState). report s.plan t.graph) undone_is
        ∙ report_extends alike same_entered s.plan s.graph undone.graph undone_extends
        undone_well.graph.valid asked

    pub report_again : report s.plan (made_again limits s all).graph
        ≡ report s.plan (after_edits limits s all).graph
    report_again =
        ap (λ (t : ScriptState). report s.plan t.graph) redone_is
        ∙ report_extends alike same_entered s.plan edited.graph redone.graph redone_extends
        redone_well.graph.valid (MayBeAsked-after s.plan s.graph net asked fits)
        ∙ ap (λ (t : ScriptState). report s.plan t.graph) (sym edited_is)
