-- Shapes of a text that make no plan: what the line is told, and whether the host refused a pattern.
use Rattle.std.specs.Prelude.{◌≡◌, ℕ, ◌+◌, ◌==◌, true, false, List, [], ◌∷◌, Contains, Option, Some, None, Ok}
use Rattle.std.specs.Prelude.{map, drop, flat_map, if◌then◌else◌}
use Rattle.std.proofs.Common.{refl, sym, ap, ◌∙◌, subst}
use Rattle.shx_outside.specs.Outside.{FlaggedText, PatternState}
use Rattle.shx_term.specs.declared.fault_codes.TheConstants.{PATTERN_REFUSED}
use Rattle.shx_term.specs.declared.limits.Limits.{Limits}
use Rattle.shx_term.specs.declared.term.Term.{Term}
use Rattle.shx_term.proofs.MemberLemmas.{Contains-from_flat_map, Contains-from_map, Contains-head}
use Rattle.graph_view.specs.Graph.{Graph}
use Rattle.shape_decl.specs.Declarations.{Declaration, declarations}
use Rattle.shape_check.specs.declared.fault.ShapeFault.{ShapeFault}
use Rattle.shape_check.specs.declared.rule.Rule.{Rule}
use Rattle.shape_check.specs.declared.rule.Rule.TheVariants.{BadList, TooManyValues, WrongKind}
use Rattle.shape_check.specs.declared.rule.Rule.TheVariants.{NotOnNodeShape, BadPath, NotAPropertyShape}
use Rattle.shape_check.specs.declared.rule.Rule.TheVariants.{NotANodeShape, BadFlags, PathTooDeep}
use Rattle.shape_check.specs.Faults.{code_of, fault_at, faults, faults_before, faults_by, faults_of, first}
use Rattle.shape_check.specs.Faults.{graph_faults, offenders, past_limit, rules}
use Rattle.edit_engine.specs.EngineState.{EngineState}
use Rattle.report_write.specs.declared.answer.Answer.{Answer}
use Rattle.report_write.specs.declared.answer.Answer.TheVariants.{OfShape}
use Rattle.shape_text.specs.Judging.{StopsAs}
use Rattle.shape_text.specs.Verdict.{IsRefusedAt, IsVerdict, Obstacle, breaks, is_refused, misspells}
use Rattle.shape_text.specs.Verdict.{RoseWhere, fault_answer, obstacle_answer, obstacle_code, reaches_far}
use Rattle.shape_text.specs.Verdict.{recurs, refuses_pattern, stops}
use Rattle.script_run.specs.declared.reply.Reply.{Reply}
use Rattle.script_run.specs.declared.reply.Reply.TheVariants.{Answers}
use Rattle.script_run.specs.declared.script_run.ScriptRun.{ScriptRun}
use Rattle.script_run.specs.Hosts.{TellsRefusal}
use Rattle.script_run.specs.Load.{IsJudgement, is_pattern_refused, refuses}
use Rattle.script_run.specs.Manner.{Manner}
use Rattle.script_run.specs.Replies.{MovesOn, Replies}
use Rattle.script_run.specs.Script.{Step, halts, judged_step, obstacle_step, refusal}
use Rattle.script_run.specs.ScriptState.{ScriptState}
use Rattle.script_run.specs.Stored.{IsScriptRun, MayGoOn}
use Rattle.script_run.specs.Work.{Work}
use Rattle.script_run.specs.inner.Loading.{Comes, Halts, RefusesBy, RefusesShapes, cut_at, over_terms}
use Rattle.script_run.specs.inner.Loading.{refused_shape, told_code}
use Rattle.script_run.proofs.ScriptRunLemmas.{answer_said}
use Rattle.script_run.proofs.WorkLemmas.{NoneFell-itself, still_work}

-- ---- codes of faults

-- no rule's code tells of a refused pattern
rule_apart : (rule : Rule) → (code_of rule == PATTERN_REFUSED) ≡ false
rule_apart BadList = refl
rule_apart TooManyValues = refl
rule_apart WrongKind = refl
rule_apart NotOnNodeShape = refl
rule_apart BadPath = refl
rule_apart NotAPropertyShape = refl
rule_apart NotANodeShape = refl
rule_apart BadFlags = refl
rule_apart PathTooDeep = refl

abbrev IsApart : ShapeFault → Type 0
IsApart fault = (fault.code == PATTERN_REFUSED) ≡ false

by_rules : (terms : List Term) (ds : List Declaration) (fault : ShapeFault)
    → Contains (flat_map (faults_of terms ds) ds) fault → IsApart fault
by_rules terms ds fault c =
    let one = Contains-from_flat_map (faults_of terms ds) ds fault c in
    let rule = Contains-from_flat_map (faults_by terms ds one.0) rules fault one.2 in
    let values = Contains-from_flat_map
    (λ v. map (fault_at rule.0 one.0 v.predicate) (offenders rule.0 terms ds one.0 v)) one.0.values fault
    rule.2 in
    let v = values.0 in
    let term = Contains-from_map (fault_at rule.0 one.0 v.predicate) (offenders rule.0 terms ds one.0 v) fault
    values.2 in
    ap (λ (f : ShapeFault). f.code == PATTERN_REFUSED) term.2 ∙ rule_apart rule.0

from_first : {X : Type 0} (xs : List X) (x : X) → first xs ≡ Some x → Contains xs x
from_first [] x e = absurd (cc)
from_first (y ∷ ys) x e =
    let same : y ≡ x = cc in
    subst (Contains (y ∷ ys)) same (Contains-head y ys)

before_apart : (terms : List Term) (ds past : List Declaration) (fault : ShapeFault)
    → first (faults_before terms ds past) ≡ Some fault → IsApart fault
before_apart terms ds [] fault e =
    by_rules terms ds fault (from_first (flat_map (faults_of terms ds) ds) fault e)
before_apart terms ds (d ∷ past) fault e =
    let same : past_limit d.node ≡ fault = cc in
    ap (λ (f : ShapeFault). f.code == PATTERN_REFUSED) (sym same)

fault_apart : (limits : Limits) (g : Graph) (fault : ShapeFault) → first (graph_faults limits g) ≡ Some fault
    → IsApart fault
unfolding faults
fault_apart limits g fault e =
    let ds = declarations limits g in
    before_apart g.terms ds (drop limits.shapes ds) fault e

-- ---- shapes that make no plan

refused_by_fault : (code shape : ℕ) (predicate term : Option ℕ) → (code == PATTERN_REFUSED) ≡ false
    → refused_shape (fault_answer code shape predicate term) ≡ None
refused_by_fault code shape (Some predicate) (Some term) apart = refl
refused_by_fault code shape (Some predicate) None apart = ap (λ b. if b then Some shape else None) apart
refused_by_fault code shape None term apart = ap (λ b. if b then Some shape else None) apart

code_by_fault : (code shape : ℕ) (predicate term : Option ℕ)
    → told_code (fault_answer code shape predicate term) ≡ code
code_by_fault code shape (Some predicate) (Some term) = refl
code_by_fault code shape (Some predicate) None = refl
code_by_fault code shape None term = refl

-- the line is refused by a code
refused_plainly : (held : ℕ) (answer : Answer) (old new : ScriptRun) (reply : Reply)
    → refused_shape answer ≡ None → RefusesShapes held answer (refused_shape answer) old new reply
    → RefusesBy (told_code answer) (cut_at held old) new reply
refused_plainly held answer old new reply none refused =
    subst (λ o. RefusesShapes held answer o old new reply) none refused

-- or the script ends
refused_at_shape : (held : ℕ) (answer : Answer) (old new : ScriptRun) (reply : Reply) (shape : ℕ)
    → refused_shape answer ≡ Some shape → RefusesShapes held answer (refused_shape answer) old new reply
    → Halts shape old new reply
refused_at_shape held answer old new reply shape some refused =
    subst (λ o. RefusesShapes held answer o old new reply) some refused

-- once the terms are cut off
pub RefusesBy-cut : (held : ℕ) (answer : Answer) (script : ScriptRun) (engine : EngineState) (code : ℕ)
    (new : ScriptRun) (reply : Reply) → engine ≡ (cut_at held script).engine → code ≡ told_code answer
    → RefusesBy code (record script { engine = engine }) new reply
    → RefusesBy (told_code answer) (cut_at held script) new reply
RefusesBy-cut held answer script engine code new reply cut told refused =
    subst (λ c. RefusesBy c (cut_at held script) new reply) told
    (subst (λ (e : EngineState). RefusesBy code (record script { engine = e }) new reply) cut refused)

-- in both cases it goes on from there
pub MovesOn-shapes : {E : Type 0} (held : ℕ) (answer : Answer) (shape : Option ℕ) (old new : ScriptRun)
    (reply : Reply) → RefusesShapes held answer shape old new reply → MayGoOn old
    → MayGoOn (cut_at held old) → (work : Work) → MovesOn {E = E} (Ok reply) old new work work
MovesOn-shapes held answer None old new reply refused may back work =
    let moves = refused.moves back work in
    record {
      names = moves.names;
      base = moves.base;
      format = moves.format;
      goes_on = moves.goes_on;
      line = moves.line;
      risen = moves.risen;
    }
MovesOn-shapes held answer (Some shape) old new reply refused may back work = record {
  names = ap (λ (r : ScriptRun). r.document) refused.ended;
  base = ap (λ (r : ScriptRun). r.base) refused.ended;
  format = ap (λ (r : ScriptRun). r.format) refused.ended;
  goes_on = subst MayGoOn (sym refused.ended)
      (record { base = may.base; group = may.group; course = may.course; staged = may.staged });
  line = ap (λ (r : ScriptRun). r.line) refused.ended;
  risen = NoneFell-itself work;
}

module _ (manner : Manner) (s : ScriptState) (held : ℕ) (old new : ScriptRun) (answer : Answer)
    (reply : Reply) (is : IsScriptRun manner.limits manner.format s (cut_at held old))
    (running : old.halted ≡ false) (stated : Graph) (before after : PatternState) (work : Work)
    (refused : RefusesShapes held answer (refused_shape answer) old new reply) where
  abbrev beside : Graph
  beside = over_terms s old.engine.graph.terms

  abbrev IsDue : Type 0
  IsDue = Comes manner (judged_step s beside)
      (λ last judgement. IsJudgement manner.limits last s.plan stated judgement) reply new after.refused work
      work

  s_running : s.halted ≡ false
  s_running = sym is.halted_is ∙ running

  -- an obstacle that is told by its code alone
  comes_told : (obstacle : Obstacle) → IsVerdict manner.limits stated (stops obstacle)
      → answer ≡ obstacle_answer obstacle → refused_shape (obstacle_answer obstacle) ≡ None
      → told_code (obstacle_answer obstacle) ≡ obstacle_code obstacle
      → is_pattern_refused (refuses obstacle) ≡ false
      → obstacle_step s beside obstacle ≡ refusal s (obstacle_code obstacle) None
      → ((last : Option FlaggedText) → IsRefusedAt manner.limits stated obstacle last) → IsDue
  comes_told obstacle judged told none code quiet step each =
      let by = refused_plainly held answer old new reply (ap refused_shape told ∙ none) refused in
      record {
        judgement = refuses obstacle;
        right = λ last ended. (judged, each last);
        halts = quiet ∙ sym (ap (λ (t : Step). t.state.halted) step ∙ s_running);
        replies = subst (λ (t : Step). Replies manner t reply new work work)
            (ap (λ c. refusal s c None) (ap told_code told ∙ code) ∙ sym step) (by.replies manner s work is);
      }

  -- a pattern was refused
  comes_ended : (shape : ℕ) → IsVerdict manner.limits stated (stops (is_refused shape))
      → answer ≡ obstacle_answer (is_refused shape)
      → IsRefusedAt manner.limits stated (is_refused shape) after.refused → IsDue
  comes_ended shape judged told at =
      let by = refused_at_shape held answer old new reply shape (ap refused_shape told) refused in
      let said = OfShape PATTERN_REFUSED shape in
      let run : ScriptRun = record old { line = old.line + 1; halted = true } in
      let here : Replies manner (halts s beside shape) (Answers said) run work work = record {
        text = answer_said manner.format beside.terms beside.terms said said refl refl;
        stored = record {
          stores = record { terms = refl; triples = is.stores.triples; count = is.stores.count };
          names_are = is.names_are;
          plan_is = is.plan_is;
          kept_is = is.kept_is;
          group_is = is.group_is;
          history_is = is.history_is;
          line_is = ap (λ line. line + 1) is.line_is;
          refused_is = is.refused_is;
          halted_is = refl;
          triples = is.triples;
          terms = is.terms;
          format_is = is.format_is;
        };
        work = still_work work work refl;
      } in
      record {
        judgement = refuses (is_refused shape);
        right = λ last ended.
            (judged, subst (IsRefusedAt manner.limits stated (is_refused shape)) (sym (ended refl)) at);
        halts = refl;
        replies = subst (λ (r : Reply). Replies manner (halts s beside shape) r new work work)
            (sym by.reply_is)
            (subst (λ (r : ScriptRun). Replies manner (halts s beside shape) (Answers said) r work work)
            (sym by.ended) here);
      }

  comes_by : (obstacle : Obstacle) → IsVerdict manner.limits stated (stops obstacle)
      → answer ≡ obstacle_answer obstacle → IsRefusedAt manner.limits stated obstacle after.refused → IsDue
  comes_by (breaks fault) judged told at =
      comes_told (breaks fault) judged told
      (refused_by_fault fault.code fault.shape fault.predicate fault.term
      (fault_apart manner.limits stated fault judged))
      (code_by_fault fault.code fault.shape fault.predicate fault.term) refl refl (λ last. tt)
  comes_by (recurs shape) judged told at =
      comes_told (recurs shape) judged told refl refl refl refl (λ last. tt)
  comes_by (reaches_far shape) judged told at =
      comes_told (reaches_far shape) judged told refl refl refl refl (λ last. tt)
  comes_by (misspells shape) judged told at =
      comes_told (misspells shape) judged told refl refl refl refl (λ last. tt)
  comes_by (is_refused shape) judged told at = comes_ended shape judged told at

  -- what stands in the way of a plan is told
  pub Comes-stopped : StopsAs manner.limits stated before after answer → IsDue
  Comes-stopped why = comes_by why.obstacle why.judged why.told why.refused

-- whether a pattern was refused
module _ (limits : Limits) (held : ℕ) (old new : ScriptRun) (answer : Answer) (reply : Reply)
    (running : old.halted ≡ false) (stated : Graph) (before after : PatternState)
    (refused : RefusesShapes held answer (refused_shape answer) old new reply) where
  told_still : refused_shape answer ≡ None → after.faults ≡ before.faults
      → TellsRefusal before.faults after.faults new.halted reply
  told_still none still =
      let by = refused_plainly held answer old new reply none refused in
      subst (λ b. TellsRefusal before.faults after.faults b reply) (sym (by.running ∙ running)) still

  told_by : (obstacle : Obstacle) → IsVerdict limits stated (stops obstacle)
      → answer ≡ obstacle_answer obstacle
      → RoseWhere (refuses_pattern (stops obstacle)) before.faults after.faults
      → TellsRefusal before.faults after.faults new.halted reply
  told_by (breaks fault) judged told rose =
      told_still
      (ap refused_shape told
      ∙ refused_by_fault fault.code fault.shape fault.predicate fault.term
      (fault_apart limits stated fault judged)) rose
  told_by (recurs shape) judged told rose = told_still (ap refused_shape told) rose
  told_by (reaches_far shape) judged told rose = told_still (ap refused_shape told) rose
  told_by (misspells shape) judged told rose = told_still (ap refused_shape told) rose
  told_by (is_refused shape) judged told rose =
      let by = refused_at_shape held answer old new reply shape (ap refused_shape told) refused in
      subst (λ b. TellsRefusal before.faults after.faults b reply)
      (sym (ap (λ (r : ScriptRun). r.halted) by.ended)) (rose, (shape, by.reply_is))

  pub TellsRefusal-stopped : StopsAs limits stated before after answer
      → TellsRefusal before.faults after.faults new.halted reply
  TellsRefusal-stopped why = told_by why.obstacle why.judged why.told why.patterns
