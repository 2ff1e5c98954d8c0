-- Other shapes in the place of those in force: what the line takes, over terms for which there is room.
use Rattle.std.specs.Prelude.{◌≡◌, ℕ, ◌+◌, ◌≤◌, ◌<◌, false, not, filter, List, ◌++◌, All, Option, Some, None}
use Rattle.std.specs.Prelude.{length, nat_eq, if◌then◌else◌}
use Rattle.std.specs.Set.{distinct_count}
use Rattle.std.specs.FinMap.{keys}
use Rattle.std.specs.List.{IsDistinct}
use Rattle.std.proofs.Common.{refl, sym, ap, ◌∙◌, subst, arith, le-ltb, lt-ltb}
use Rattle.shx_outside.specs.Outside.{FlaggedText, PatternState}
use Rattle.shx_term.specs.declared.fault_codes.TheConstants.{GRAPH_TERMS}
use Rattle.shx_term.specs.declared.limits.Limits.{Limits}
use Rattle.shx_term.specs.declared.term.Term.{Term}
use Rattle.shx_term.specs.declared.triple.Triple.{Triple}
use Rattle.shx_term.specs.declared.triple.TermTriple.{TermTriple}
use Rattle.shx_term.specs.Pool.{with_terms}
use Rattle.shx_term.specs.TripleTerms.{numbered_all, terms_of}
use Rattle.comp_core.specs.declared.pair.Pair.{Pair}
use Rattle.comp_core.specs.Pairs.{same_pair}
use Rattle.graph_view.specs.Graph.{Graph, graph_of}
use Rattle.graph_view.specs.SameGraph.{SameGraph}
use Rattle.graph_view.specs.Valid.{IsValidView}
use Rattle.ttl_meaning.specs.State.{State}
use Rattle.shape_eval.specs.Nested.{nested_pairs}
use Rattle.shape_eval.specs.Plan.{IsKnownPlan, Planned, planned}
use Rattle.shape_eval.specs.Report.{pairs}
use Rattle.plan_swap.specs.Alike.{AreAlikes}
use Rattle.plan_swap.specs.Swap.{pair_before}
use Rattle.edit_engine.specs.Course.{IsCourse}
use Rattle.edit_engine.specs.EngineState.{EngineState}
use Rattle.edit_engine.specs.MayBeAsked.{MayBeAsked}
use Rattle.edit_engine.specs.Remembered.{AreAllRecalled, answer_of, fresh}
use Rattle.edit_engine.specs.Swapped.{Adopts, fresh_over, is_pair_of, staying_over, swapped_pairs}
use Rattle.edit_engine.specs.Touched.{is_among_pairs}
use Rattle.edit_engine.proofs.HeldTripleLemmas.{AreAllHeld-entered}
use Rattle.report_write.specs.declared.answer.Answer.TheVariants.{ShapesTaken}
use Rattle.shape_text.specs.Judging.{PlansAs}
use Rattle.shape_text.specs.TextReadings.{States, numbered_from}
use Rattle.script_run.specs.declared.reply.Reply.{Reply}
use Rattle.script_run.specs.declared.reply.Reply.TheVariants.{Answers}
use Rattle.script_run.specs.declared.script_run.ScriptRun.{ScriptRun}
use Rattle.script_run.specs.Load.{IsJudgement, Judgement, takes, unjudged}
use Rattle.script_run.specs.Loaded.{IsJudged}
use Rattle.script_run.specs.Manner.{Manner}
use Rattle.script_run.specs.Replies.{AnswersOn, Replies}
use Rattle.script_run.specs.Script.{swapped_count, Step, beside_text, halts, judged_step, refusal}
use Rattle.script_run.specs.Script.{stated_beside, takes_shapes, text_step}
use Rattle.script_run.specs.ScriptState.{ScriptState}
use Rattle.script_run.specs.Stored.{IsScriptRun, MayGoOn}
use Rattle.script_run.specs.Work.{Work, evaluating}
use Rattle.script_run.specs.inner.Loading.{Comes, ComesOf, TakesPlan, over_terms, stated_triples}
use Rattle.script_run.proofs.ChangingLemmas.{recalled_pairs}
use Rattle.script_run.proofs.ScriptRunLemmas.{answer_said}
use Rattle.script_run.proofs.EnteredLemmas.{stated_numbered}
use Rattle.script_run.proofs.WorkLemmas.{same_work}

-- ---- another plan

-- the plan may be asked of the graph whose terms it numbers
pub MayBeAsked-planned : (limits : Limits) (g h : Graph) (before after : PatternState) (plan : Planned)
    → PlansAs limits h before after plan → h.terms ≡ g.terms → IsValidView g
    → All (λ n. n < length plan.shapes) (planned h.terms plan.shapes).targeted
    → IsDistinct nat_eq (planned h.terms plan.shapes).targeted → MayBeAsked plan g
MayBeAsked-planned limits g h before after plan is same valid within once =
    let targeted = ap (λ (p : Planned). p.targeted) is.judged.1.targeted in
    record {
      valid = valid;
      known = subst (λ terms. IsKnownPlan terms plan.shapes) same is.fits.known;
      refers = is.fits.refers;
      within = subst (All (λ n. n < length plan.shapes)) (sym targeted) within;
      once = subst (IsDistinct nat_eq) (sym targeted) once;
    }

-- the same pairs are swapped on a graph with the same pairs
is_pair_same : (plan : Planned) (g h : Graph) → pairs plan g ≡ pairs plan h → (p : Option Pair)
    → is_pair_of plan g p ≡ is_pair_of plan h p
is_pair_same plan g h same None = refl
is_pair_same plan g h same (Some p) = ap (λ ps. is_among_pairs ps p) same

module _ (script : ScriptRun) (plan : Planned) (alikes : List (Option ℕ)) (evaluated : ℕ)
    (engine : EngineState) (nested nested' : ℕ)
    (adopts : Adopts script.engine plan alikes evaluated engine nested nested') where
  abbrev taken : ScriptRun
  taken = record script { engine = engine; line = script.line + 1 }

  module _ (manner : Manner) (s : ScriptState) (is : IsScriptRun manner.limits manner.format s script)
      (steps steps' : ℕ) (counts : steps' ≡ steps + evaluated)
      (before_same : pairs script.engine.plan s.graph ≡ pairs script.engine.plan script.engine.graph)
      (after_same : pairs plan s.graph ≡ pairs plan script.engine.graph)
      (nested_same : nested_pairs plan s.graph ≡ nested_pairs plan script.engine.graph) where
    swapped_same : evaluated ≡ length (swapped_pairs s.plan plan alikes s.graph)
    swapped_same =
        let old = script.engine.plan in
        let g = s.graph in
        let h = script.engine.graph in
        let same : swapped_pairs old plan alikes g ≡ swapped_pairs old plan alikes h =
        λ i. filter (λ p. not (is_pair_same old g h before_same (pair_before alikes p) i)) (after_same i) in
        adopts.evaluated_are ∙ ap length (sym same)
        ∙ ap (λ (p : Planned). length (swapped_pairs p plan alikes g)) is.plan_is

    fresh_same : (stay : List Pair) → fresh plan script.engine.graph stay ≡ fresh plan s.graph stay
    fresh_same stay = ap (λ ps. filter (λ p. not (is_among_pairs stay p)) ps) (sym nested_same)

    nested_counted : nested' ≡ nested + fresh_over plan alikes s.graph s.kept
    nested_counted =
        adopts.nested.counted s.kept is.kept_is
        ∙ ap (λ ps. nested + distinct_count same_pair ps) (fresh_same (staying_over alikes s.kept))

    pub TakesPlan-adopted : AreAlikes script.engine.plan.shapes plan.shapes alikes
        → TakesPlan manner s plan (Answers (ShapesTaken evaluated)) taken (evaluating steps nested)
        (evaluating steps' nested')
    TakesPlan-adopted alike =
        let state = (takes_shapes s s.graph plan alikes).state in
        let terms = is.stores.terms ∙ ap (λ (g : Graph). g.terms) (sym adopts.graph) in
        record {
          alikes = alikes;
          are_alikes = subst (λ (p : Planned). AreAlikes p.shapes plan.shapes alikes) is.plan_is alike;
          replies = record {
            text = answer_said manner.format s.graph.terms engine.graph.terms
                (ShapesTaken (swapped_count s s.graph plan alikes)) (ShapesTaken evaluated) terms
                (ap ShapesTaken (sym swapped_same));
            stored = record {
              stores = subst (SameGraph s.graph) (sym adopts.graph) is.stores;
              names_are = is.names_are;
              plan_is = adopts.plan_is;
              kept_is = subst (AreAllRecalled (answer_of engine.remembered))
                  (ap (λ ps. staying_over alikes s.kept ++ ps) (fresh_same (staying_over alikes s.kept)))
                  (adopts.nested.kept s.kept is.kept_is);
              group_is = is.group_is;
              history_is = is.history_is;
              line_is = ap (λ line. line + 1) is.line_is;
              refused_is = is.refused_is;
              halted_is = is.halted_is;
              triples = adopts.triple_limit ∙ is.triples;
              terms = adopts.term_limit ∙ is.terms;
              format_is = is.format_is;
            };
            work = same_work _ _ (counts ∙ ap (λ n. steps + n) swapped_same) nested_counted;
          };
        }

  pub MovesOn-taken : (steps steps' : ℕ) → steps' ≡ steps + evaluated → MayGoOn script
      → AnswersOn (Answers (ShapesTaken evaluated)) script taken (evaluating steps nested)
      (evaluating steps' nested')
  MovesOn-taken steps steps' counts may = record {
    names = refl;
    base = refl;
    format = refl;
    goes_on = record {
      base = may.base;
      group = may.group;
      course = course;
      staged = may.staged;
    };
    line = refl;
    risen = record {
      evaluated = omega (arith, counts);
      nested = omega (
        arith,
        adopts.nested.counted (keys script.engine.remembered) (recalled_pairs script.engine.remembered),
      );
    };
  }
    where
      course : IsCourse engine.triple_limit engine.graph script.history.changes script.history.cursor
      course =
          subst (λ n. IsCourse n engine.graph script.history.changes script.history.cursor)
          (sym adopts.triple_limit)
          (subst (λ (g : Graph). IsCourse script.engine.triple_limit g script.history.changes
          script.history.cursor) (sym adopts.graph) may.course)

-- ---- what a step comes to

-- one step is as good as another that is the same
Comes-as : (manner : Manner) (step step' : Judgement → Step)
    (IsRight IsRight' : Option FlaggedText → Judgement → Type 0) (reply : Reply) (script : ScriptRun)
    (last : Option FlaggedText) (before after : Work) → ((j : Judgement) → step j ≡ step' j)
    → ((refused : Option FlaggedText) (j : Judgement) → IsRight refused j → IsRight' refused j)
    → Comes manner step IsRight reply script last before after
    → Comes manner step' IsRight' reply script last before after
Comes-as manner step step' IsRight IsRight' reply script last before after same weaker comes =
    let j = comes.judgement in
    record {
      judgement = j;
      right = λ refused ended. weaker refused j (comes.right refused (λ halted.
          ended (sym (ap (λ (t : Step). t.state.halted) (same j)) ∙ halted)));
      halts = comes.halts ∙ ap (λ (t : Step). t.state.halted) (same j);
      replies = subst (λ (t : Step). Replies manner t reply script before after) (same j) comes.replies;
    }

-- the shapes make a plan
pub Comes-taken : (manner : Manner) (s : ScriptState) (g stated : Graph) (plan : Planned)
    (before after : PatternState) (reply : Reply) (script : ScriptRun) (last : Option FlaggedText)
    (work work' : Work) → s.halted ≡ false → PlansAs manner.limits stated before after plan
    → TakesPlan manner (record s { graph = g }) plan reply script work work'
    → Comes manner (judged_step s g)
    (λ refused judgement. IsJudgement manner.limits refused s.plan stated judgement) reply script last work
    work'
Comes-taken manner s g stated plan before after reply script last work work' running plans taken = record {
  judgement = takes plan taken.alikes;
  right = λ refused ended. (plans.judged, taken.are_alikes);
  halts = sym running;
  replies = taken.replies;
}

-- ---- terms for which there is room, or none

module _ (manner : Manner) (s : ScriptState) (old : ScriptRun)
    (is : IsScriptRun manner.limits manner.format s old) (document : Graph) (end : State)
    (ts : List TermTriple) (ends : end.triples ≡ ts) (terms : List Term)
    (entered : terms ≡ with_terms old.engine.graph.terms (terms_of ts)) where
  terms_same : terms ≡ (beside_text s end).terms
  terms_same = entered ∙ (λ i. with_terms (sym is.stores.terms i) (terms_of (sym ends i)))

  step_same : length terms ≤ manner.limits.terms → (j : Judgement)
      → judged_step s (over_terms s terms) j ≡ text_step manner.limits s (States document end) j
  step_same room j =
      let g = beside_text s end in
      ap (λ ts. judged_step s (over_terms s ts) j) terms_same
      ∙ ap (λ b. if b then refusal s GRAPH_TERMS None else judged_step s g j)
      (sym (le-ltb manner.limits.terms (length g.terms) (omega (arith, room, ap length terms_same))))

  stated_same : (found : List Triple) → found ≡ numbered_all terms ts
      → graph_of terms found ≡ stated_beside s end
  stated_same found numbers =
      let triples = numbers ∙ (λ i. numbered_all (terms_same i) (sym ends i)) in
      λ i. graph_of (terms_same i) (triples i)

  -- there is room for them
  pub ComesOf-judged : (found : List Triple) (reply : Reply) (script : ScriptRun) (last : Option FlaggedText)
      (before after : Work) → length terms ≤ manner.limits.terms → found ≡ numbered_all terms ts
      → Comes manner (judged_step s (over_terms s terms))
      (λ refused judgement. IsJudgement manner.limits refused s.plan (graph_of terms found) judgement) reply
      script last before after → ComesOf manner s (States document end) reply script last before after
  ComesOf-judged found reply script last before after room numbers comes =
      Comes-as manner (judged_step s (over_terms s terms)) (text_step manner.limits s (States document end))
      (λ refused judgement. IsJudgement manner.limits refused s.plan (graph_of terms found) judgement)
      (λ refused judgement. IsJudged manner.limits refused s (States document end) judgement) reply script
      last before after (step_same room)
      (λ refused j right. record {
        fits = λ fits.
            subst (λ (g : Graph). IsJudgement manner.limits refused s.plan g j) (stated_same found numbers)
            right;
        has_no_room = λ full. absurd (omega (arith, full, room, ap length terms_same));
      })
      comes

  -- there is none
  pub ComesOf-full : (reply : Reply) (script : ScriptRun) (last : Option FlaggedText) (work : Work)
      → manner.limits.terms < length terms → old.halted ≡ false
      → Replies manner (refusal s GRAPH_TERMS None) reply script work work
      → ComesOf manner s (States document end) reply script last work work
  ComesOf-full reply script last work full running replies =
      let g = beside_text s end in
      let step : text_step manner.limits s (States document end) unjudged ≡ refusal s GRAPH_TERMS None =
      ap (λ b. if b then refusal s GRAPH_TERMS None else judged_step s g unjudged)
      (lt-ltb manner.limits.terms (length g.terms) (omega (arith, full, ap length terms_same))) in
      record {
        judgement = unjudged;
        right = λ refused ended. record {
          fits = λ room. absurd (omega (arith, full, room, ap length terms_same));
          has_no_room = λ full. refl;
        };
        halts = sym (ap (λ (t : Step). t.state.halted) step ∙ sym is.halted_is ∙ running);
        replies = subst (λ (t : Step). Replies manner t reply script work work) (sym step) replies;
      }

-- what was read is stated over the terms of its numbers
pub stated_document : (held terms : List Term) (us : List Triple) (end : State)
    → record { terms = terms; triples = us } ≡ numbered_from held end.triples
    → end.triples ≡ stated_triples terms us
stated_document held terms us end is =
    sym (ap (λ (g : Graph). stated_triples g.terms g.triples) is
    ∙ stated_numbered (with_terms held (terms_of end.triples)) end.triples
    (AreAllHeld-entered held end.triples))
