-- What a change of the graph makes of a script.
use Rattle.std.proofs.Common.{◌≡◌, ℕ, ◌+◌, ◌-◌, ◌<◌, ◌≤◌, Bool, true, false, List, Option, length}
use Rattle.std.proofs.Common.{zero, suc, None, Some, Result, Ok, Err, refl, sym, ap, ◌∙◌, arith, subst}
use Rattle.std.proofs.Common.{Vec}
use Rattle.std.specs.Prelude.{All, IfSome, IfOk, OnOk, ◌==◌, if◌then◌else◌, slice_get}
use Rattle.std.specs.Option.{is_some, option_map}
use Rattle.std.specs.Cmp.{eq_by_cmp_equiv, Equal-is}
use Rattle.std.specs.FinMap.{contains_key-keys, keys}
use Rattle.std.specs.Ordering.{eq_by_cmp}
use Rattle.std.specs.declared.alloc.Global.{Global}
use Rattle.std.specs.declared.alloc.AllocError.{AllocError}
use Rattle.std.proofs.lemmas.Option.{slice_get_within}
use Rattle.std.proofs.lemmas.Result.{IfOk-weaker}
use Rattle.shx_term.specs.Edit.{IsValidEdit}
use Rattle.shx_term.specs.Members.{SameMembers}
use Rattle.shx_term.proofs.MemberLemmas.{Contains-test}
use Rattle.shx_term.specs.declared.edit.Edit.{Edit}
use Rattle.shx_term.specs.declared.fault_codes.TheConstants.{GROUP_OPEN}
use Rattle.shx_term.specs.declared.limits.Limits.{Limits}
use Rattle.comp_core.specs.declared.pair.Pair.{Pair}
use Rattle.graph_view.specs.Graph.{Graph}
use Rattle.graph_view.specs.SameGraph.{SameGraph}
use Rattle.graph_view.proofs.SameGraphLemmas.{SameGraph-then}
use Rattle.shape_eval.specs.declared.shape.PlanShape.{PlanShape}
use Rattle.shape_eval.specs.Plan.{Planned}
use Rattle.shape_eval.specs.Recalled.{IsRecallOf, IsRecalled}
use Rattle.read_records.specs.Recall.{Answer as Recalled, pair_cmp}
use Rattle.read_records.proofs.RecallLemmas.{pair_cmp_exact, pair_cmp_total}
use Rattle.edit_history.specs.declared.net.Net.{Net}
use Rattle.edit_history.specs.History.{MovesTo, Past, entered, redo_change, undo_change}
use Rattle.edit_engine.specs.declared.edit.Change.{Change}
use Rattle.edit_engine.specs.declared.edit.EditFault.{EditFault}
use Rattle.edit_engine.specs.declared.edit.EditFault.TheVariants.{TooManyTriples, TooManyTerms, Memory}
use Rattle.edit_engine.specs.Applied.{BringsFreshBy, IsChanged, Refuses, SamePlan}
use Rattle.edit_engine.specs.Applied.{applied_as, counted_at, outcome_of}
use Rattle.edit_engine.specs.Course.{IsCourse}
use Rattle.edit_engine.specs.Edits.{net_of}
use Rattle.edit_engine.specs.Nets.{Outcome, NoEffect, PastTriples, PastTerms, Effect, IsNetOn, changed_by}
use Rattle.edit_engine.specs.Nets.{graph_after, is_no_change, outcome, turned}
use Rattle.edit_engine.specs.EngineState.{EngineState}
use Rattle.edit_engine.specs.Remembered.{AreAllRecalled, BringsFresh, Remembering, answer_of}
use Rattle.edit_engine.specs.Touched.{touched_pairs}
use Rattle.edit_engine.proofs.KeptPairLemmas.{some_answer}
use Rattle.report_write.specs.declared.answer.Answer.{Answer}
use Rattle.report_write.specs.declared.answer.Answer.TheVariants.{Changed, Unchanged}
use Rattle.script_run.specs.declared.reply.Reply.{Reply}
use Rattle.script_run.specs.declared.reply.Reply.TheVariants.{Answers}
use Rattle.script_run.specs.declared.script_run.ScriptRun.{ScriptRun}
use Rattle.script_run.specs.inner.Changing.{ComesAlike, IsRefusedBy, StaysCourse, made_behind}
use Rattle.script_run.specs.inner.Changing.{next_change, none_next, way_step}
use Rattle.script_run.specs.Replies.{AnswersOn, MovesOn, Replies}
use Rattle.script_run.specs.Stored.{IsScriptRun, MayGoOn}
use Rattle.script_run.specs.Manner.{Manner}
use Rattle.script_run.specs.Script.{change_step, changed, edits_step, kept_by, nested_due, past_of}
use Rattle.script_run.specs.Script.{make_again, refusal, take_back, touched_count}
use Rattle.script_run.specs.ScriptState.{ScriptState}
use Rattle.script_run.specs.Work.{NoneFell, Work, and_then, evaluating, no_work}
use Rattle.script_run.proofs.ScriptRunLemmas.{IsScriptRun-changed, IsScriptRun-same, answer_said}
use Rattle.script_run.proofs.WorkLemmas.{NoneFell-itself, same_work}

-- only nodes that have terms are remembered, where what is remembered is right
pub has_term : (shapes : List PlanShape) (g : Graph) (recalled : Pair → Option Recalled)
    → IsRecallOf SameMembers shapes g recalled → (p : Pair) → IsRecalled recalled p
    → p.node < length g.terms
has_term shapes g recalled is p there =
    let (answer, found) = some_answer (recalled p) there in
    (is.right.each p answer found).node

-- the pairs that are remembered stand in a list
pub recalled_pairs : (remembered : Remembering) → AreAllRecalled (answer_of remembered) (keys remembered)
recalled_pairs remembered = record {
  each = λ p.
      let among = Contains-test (eq_by_cmp pair_cmp) (eq_by_cmp_equiv pair_cmp_total)
      (λ a b tied. pair_cmp_exact a b ((Equal-is (pair_cmp a b)).0 tied)) (keys remembered) p in
      let test = contains_key-keys remembered p in
      (λ c. test ∙ among.1 c, λ there. among.0 (sym test ∙ there));
}

-- so by a change that came through the count of nested pairs did not fall
pub nested_risen : (old new : EngineState) (net : Net) (change : Change) (before after : ℕ)
    (comes : Outcome) → applied_as old net change new before after comes → before ≤ after
nested_risen old new net change before after NoEffect applied = omega (arith, applied.nested)
nested_risen old new net change before after PastTriples applied = absurd applied
nested_risen old new net change before after PastTerms applied = absurd applied
nested_risen old new net change before after Effect applied =
    omega (arith, applied.nested.counted (keys old.remembered) (recalled_pairs old.remembered))

-- what comes of a change is what the engine says, which may store the graph in another order
pub same_outcome : (manner : Manner) (s : ScriptState) (script : ScriptRun)
    → IsScriptRun manner.limits manner.format s script → (net : Net) → ComesAlike script.engine s.graph net
    → outcome manner.limits.triples manner.limits.terms s.graph net ≡ outcome_of script.engine net
same_outcome manner s script is net alike =
    alike.outcomes manner.limits.triples manner.limits.terms
    ∙ (λ i. outcome (sym is.triples i) (sym is.terms i) script.engine.graph net)

-- ---- a change that came through

module _ (manner : Manner) (s : ScriptState) (script : ScriptRun)
    (is : IsScriptRun manner.limits manner.format s script) (net : Net)
    (alike : ComesAlike script.engine s.graph net) (engine : EngineState)
    (plan : SamePlan script.engine engine) (change : Change) (answer : Answer)
    (changes : change.changed ≡ true → answer ≡ Changed change.evaluated)
    (unchanged : change.changed ≡ false → answer ≡ Unchanged) (group : Option (Vec Edit Global))
    (ungrouped : option_map (λ edits. edits.items) group ≡ None) (history : Past)
    (steps steps' nested nested' : ℕ) (counts : steps' ≡ steps + change.evaluated) where
  abbrev after : ScriptRun
  after = record script { engine = engine; group = group; history = history; line = script.line + 1 }

  -- over this plan it brings nested pairs, as the script has the graph
  abbrev BringsBy : Planned → Type 0
  BringsBy plan = BringsFresh plan s.graph (graph_after s.graph net) (changed_by s.graph net)
      (answer_of script.engine.remembered) (answer_of engine.remembered) nested nested'

  count_is : change.evaluated ≡ length (touched_pairs script.engine.plan script.engine.graph
      (graph_after script.engine.graph net) (changed_by script.engine.graph net))
      → touched_count s net ≡ change.evaluated
  count_is evaluated =
      ap (λ (plan : Planned). length (touched_pairs plan s.graph (graph_after s.graph net)
      (changed_by s.graph net))) (sym is.plan_is)
      ∙ ap length alike.touched ∙ sym evaluated

  brings : BringsFreshBy script.engine net engine nested nested' → BringsBy s.plan
  brings own = subst (λ (plan : Planned). BringsBy plan) is.plan_is
      (alike.fresh (answer_of engine.remembered) nested nested' own)

  -- it is told, and these are the changes from then on
  pub Replies-changed : (all : List Net) (made : ℕ) → IsChanged script.engine net change engine nested nested'
      → history ≡ past_of manner.limits (record s { changes = all; made = made })
      → Replies manner (changed s net all made) (Answers answer) after (evaluating steps nested)
      (evaluating steps' nested')
  Replies-changed all made applied past =
      let graph = graph_after s.graph net in
      let stores : SameGraph graph engine.graph = SameGraph-then alike.graphs applied.graph in
      let count = count_is applied.evaluated in
      let brought = brings applied.nested in
      record {
        text = answer_said manner.format graph.terms engine.graph.terms (Changed (touched_count s net))
            answer stores.terms (ap Changed count ∙ sym (changes applied.changed));
        stored = IsScriptRun-changed manner.limits manner.format s script is graph (kept_by s net) None all
            made engine group history stores (brought.kept s.kept is.kept_is) plan ungrouped past;
        work = same_work (evaluating steps' nested')
            (and_then (evaluating steps nested) (evaluating (touched_count s net) (nested_due s net)))
            (counts ∙ ap (λ n. steps + n) (sym count)) (brought.counted s.kept is.kept_is);
      }

  module _ (enters : change.changed ≡ true → history ≡ entered script.history net)
      (stays : change.changed ≡ false → history ≡ script.history) where
    -- what comes of a change that is new
    Replies-by : (comes : Outcome) → applied_as script.engine net change engine nested nested' comes
        → Replies manner (change_step manner.limits s net comes) (Answers answer) after
        (evaluating steps nested) (evaluating steps' nested')
    Replies-by NoEffect applied =
        let same : script.engine.graph.terms ≡ engine.graph.terms =
        ap (λ (e : EngineState). e.graph.terms) (sym applied.same) in
        let stores : SameGraph s.graph engine.graph =
        subst (λ (e : EngineState). SameGraph s.graph e.graph) (sym applied.same) is.stores in
        let recalled : AreAllRecalled (answer_of engine.remembered) s.kept =
        subst (λ (e : EngineState). AreAllRecalled (answer_of e.remembered) s.kept) (sym applied.same)
        is.kept_is in
        record {
          text = answer_said manner.format s.graph.terms engine.graph.terms Unchanged answer
              (is.stores.terms ∙ same) (sym (unchanged applied.changed));
          stored = IsScriptRun-changed manner.limits manner.format s script is s.graph s.kept None s.changes
              s.made engine group history stores recalled plan ungrouped
              (stays applied.changed ∙ is.history_is);
          work = same_work (evaluating steps' nested') (and_then (evaluating steps nested) no_work)
              (omega (arith, counts, applied.evaluated)) (omega (arith, applied.nested));
        }
    Replies-by PastTriples applied = absurd applied
    Replies-by PastTerms applied = absurd applied
    Replies-by Effect applied =
        let past = entered (past_of manner.limits s) net in
        Replies-changed past.changes past.cursor applied
        (enters applied.changed ∙ ap (λ past. entered past net) is.history_is)

    pub Replies-applied :
        applied_as script.engine net change engine nested nested' (outcome_of script.engine net)
        → Replies manner (change_step manner.limits s net
        (outcome manner.limits.triples manner.limits.terms s.graph net)) (Answers answer) after
        (evaluating steps nested) (evaluating steps' nested')
    Replies-applied applied =
        rw (same_outcome manner s script is net alike) (Replies-by (outcome_of script.engine net) applied)

-- edits that come to this net are answered as it is
pub edits_are : (limits : Limits) (s : ScriptState) (edits : List Edit) (net : Net)
    → net_of s.graph edits ≡ net → edits_step limits s edits
    ≡ change_step limits s net (outcome limits.triples limits.terms s.graph net)
edits_are limits s edits net same =
    ap (λ net. change_step limits s net (outcome limits.triples limits.terms s.graph net)) same

-- ---- a change that was refused

none_is : {X E : Type 0} (r : Result X E) (P : X → Type 0) → IfOk r (λ x. ⊥) → IfOk r P
none_is (Ok x) P never = absurd never
none_is (Err e) P never = tt

module _ (script : ScriptRun) (net : Net) (engine : EngineState) (group : Option (Vec Edit Global))
    (history : Past) (past : history ≡ script.history) (steps steps' nested nested' : ℕ)
    (result : Result Reply AllocError) (script' : ScriptRun) where
  abbrev before : ScriptRun
  before = record script { engine = engine; group = group; history = history }

  pub Replies-refused : (manner : Manner) (s : ScriptState)
      → IsScriptRun manner.limits manner.format s script → ComesAlike script.engine s.graph net
      → option_map (λ edits. edits.items) group ≡ s.group → (fault : EditFault)
      → Refuses script.engine net fault engine (counted_at steps nested) (counted_at steps' nested')
      → (fault ≡ Memory → IfOk result (λ reply. ⊥))
      → ((work : Work) → IsScriptRun manner.limits manner.format s before
      → IfOk result (λ reply. IsRefusedBy manner s fault reply script' work))
      → IfOk result (λ reply. Replies manner (change_step manner.limits s net
      (outcome manner.limits.triples manner.limits.terms s.graph net)) reply script'
      (evaluating steps nested) (evaluating steps' nested'))
  Replies-refused manner s is alike waits Memory refused memory replies = none_is result _ (memory refl)
  Replies-refused manner s is alike waits TooManyTriples refused memory replies =
      let kept = IsScriptRun-same manner.limits manner.format s script is engine group history refused.same
      waits past in
      let counted : evaluating steps' nested' ≡ evaluating steps nested =
      λ i. evaluating (refused.counted i).evaluated (refused.counted i).nested in
      IfOk-weaker result _ _ (λ reply told.
      rw (same_outcome manner s script is net alike ∙ refused.cause_is, counted) told)
      (replies (evaluating steps nested) kept)
  Replies-refused manner s is alike waits TooManyTerms refused memory replies =
      let kept = IsScriptRun-same manner.limits manner.format s script is engine group history refused.same
      waits past in
      let counted : evaluating steps' nested' ≡ evaluating steps nested =
      λ i. evaluating (refused.counted i).evaluated (refused.counted i).nested in
      IfOk-weaker result _ _ (λ reply told.
      rw (same_outcome manner s script is net alike ∙ refused.cause_is, counted) told)
      (replies (evaluating steps nested) kept)

-- ---- a script may go on

effect_changes : (b : Bool) (x : Outcome) → (if b then NoEffect else x) ≡ Effect → b ≡ false
effect_changes true x is = absurd (cc)
effect_changes false x is = refl

module _ (script : ScriptRun) (may : MayGoOn script)
    (stays : StaysCourse script.engine.triple_limit script.engine.graph script.history) (net : Net)
    (engine : EngineState) (plan : SamePlan script.engine engine) (change : Change)
    (group : Option (Vec Edit Global)) (valid : IfSome group (λ edits. All IsValidEdit edits.items))
    (history : Past) (nested nested' : ℕ) where
  abbrev gone_on : ScriptRun
  gone_on = record script { engine = engine; group = group; history = history; line = script.line + 1 }

  -- by a change that is new
  MayGoOn-by : IsNetOn script.engine.graph net
      → (change.changed ≡ true → history ≡ entered script.history net)
      → (change.changed ≡ false → history ≡ script.history) → (comes : Outcome)
      → outcome_of script.engine net ≡ comes → applied_as script.engine net change engine nested nested' comes
      → MayGoOn gone_on
  MayGoOn-by fits enters same NoEffect is applied =
      let past = same applied.changed in
      record {
        base = may.base;
        group = valid;
        course = rw (applied.same, past) may.course;
        staged = ap (λ (p : Past). p.staged) past ∙ may.staged;
      }
  MayGoOn-by fits enters same PastTriples is applied = absurd applied
  MayGoOn-by fits enters same PastTerms is applied = absurd applied
  MayGoOn-by fits enters same Effect is applied =
      let past = enters applied.changed in
      record {
        base = may.base;
        group = valid;
        course = rw (plan.triple_limit, past)
            (stays.made net engine.graph fits (effect_changes (is_no_change net) _ is) applied.graph);
        staged = ap (λ (p : Past). p.staged) past;
      }

  pub MayGoOn-applied : IsNetOn script.engine.graph net
      → (change.changed ≡ true → history ≡ entered script.history net)
      → (change.changed ≡ false → history ≡ script.history)
      → applied_as script.engine net change engine nested nested' (outcome_of script.engine net)
      → MayGoOn gone_on
  MayGoOn-applied fits enters same applied =
      MayGoOn-by fits enters same (outcome_of script.engine net) refl applied

  -- by one that moves the history
  pub MayGoOn-moved : (made : ℕ) → MovesTo script.history history made
      → IsCourse script.engine.triple_limit engine.graph script.history.changes made → MayGoOn gone_on
  MayGoOn-moved made moves course = record {
    base = may.base;
    group = valid;
    course = rw (plan.triple_limit, moves.changes, moves.cursor_is) course;
    staged = moves.staged ∙ may.staged;
  }

-- ---- the way through the changes

-- it is not gone within a group
pub way_grouped : (back : Bool) (limits : Limits) (s : ScriptState) (waiting : List Edit)
    → way_step back limits s (Some waiting) ≡ refusal s GROUP_OPEN None
way_grouped true limits s waiting = refl
way_grouped false limits s waiting = refl

pub way_none : (back : Bool) (limits : Limits) (s : ScriptState)
    → next_change back (past_of limits s) ≡ None
    → way_step back limits s None ≡ refusal s (none_next back) None
way_none true limits s none = ap (take_back s) none
way_none false limits s none = ap (make_again s) none

pub way_on : (back : Bool) (limits : Limits) (s : ScriptState) (net : Net)
    → next_change back (past_of limits s) ≡ Some net
    → way_step back limits s None ≡ changed s (turned back net) s.changes (made_behind back s.made)
way_on true limits s net is = ap (take_back s) is
way_on false limits s net is = ap (make_again s) is

-- where there is a change to take back, some are made
some_before : (changes : List Net) (made : ℕ)
    → is_some (if made == 0 then None else slice_get changes (made - 1)) ≡ true → 0 < made
some_before changes zero is = absurd (cc)
some_before changes (suc made) is = omega arith

pub some_made : (past : Past) → is_some (undo_change past) ≡ true → 0 < past.cursor
some_made past is = some_before past.changes past.cursor is

-- and one that was taken back stands behind those that are made
pub some_behind : (past : Past) → is_some (redo_change past) ≡ true → past.cursor < length past.changes
some_behind past is =
    elim (slice_get past.changes past.cursor) as (λ found. slice_get past.changes past.cursor ≡ found
    → is_some found ≡ true → past.cursor < length past.changes) [
      | None ↦ λ none never. absurd (cc)
      | Some net ↦ λ found _. slice_get_within past.changes past.cursor net found
    ] refl is

-- ---- a step moves on

-- it was answered, and nothing was done
pub MovesOn-counted : (script : ScriptRun) → MayGoOn script → (reply : Reply) (work : Work)
    → AnswersOn reply script (record script { line = script.line + 1 }) work work
MovesOn-counted script may reply work = record {
  names = refl;
  base = refl;
  format = refl;
  goes_on = record { base = may.base; group = may.group; course = may.course; staged = may.staged };
  line = refl;
  risen = NoneFell-itself work;
}

-- edits were refused, and so nothing was done
module _ (script : ScriptRun) (may : MayGoOn script) (net : Net) (engine : EngineState) (history : Past)
    (past : history ≡ script.history) (steps steps' nested nested' : ℕ) (result : Result Reply AllocError)
    (script' : ScriptRun) (names : script'.document ≡ script.document) (base : script'.base ≡ script.base)
    (format : script'.format ≡ script.format)
    (moves : MayGoOn (record script { engine = engine; history = history }) → (work : Work)
    → MovesOn result (record script { engine = engine; history = history }) script' work work) where
  abbrev was : Work
  was = evaluating steps nested

  abbrev is_now : Work
  is_now = evaluating steps' nested'

  MovesOn-still : engine ≡ script.engine → is_now ≡ was → MovesOn result script script' was is_now
  MovesOn-still same none =
      let kept = subst (λ (e : EngineState). MayGoOn (record script { engine = e; history = history }))
      (sym same) (subst (λ (h : Past). MayGoOn (record script { history = h })) (sym past) may) in
      let moved = moves kept was in
      record {
        names = names;
        base = base;
        format = format;
        goes_on = moved.goes_on;
        line = moved.line;
        risen = subst (λ (work : Work). OnOk result (NoneFell was work)) (sym none) moved.risen;
      }

  pub MovesOn-refused : (fault : EditFault)
      → Refuses script.engine net fault engine (counted_at steps nested) (counted_at steps' nested')
      → (fault ≡ Memory → IfOk result (λ reply. ⊥)) → MovesOn result script script' was is_now
  MovesOn-refused TooManyTriples refused memory =
      MovesOn-still refused.same (λ i. evaluating (refused.counted i).evaluated (refused.counted i).nested)
  MovesOn-refused TooManyTerms refused memory =
      MovesOn-still refused.same (λ i. evaluating (refused.counted i).evaluated (refused.counted i).nested)
  MovesOn-refused Memory refused memory =
      let never = memory refl in
      record {
        names = names;
        base = base;
        format = format;
        goes_on = none_is result _ never;
        line = none_is result _ never;
        risen = none_is result _ never;
      }
