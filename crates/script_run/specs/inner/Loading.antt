-- Texts of shapes that lines load, as they are read, entered and judged.
use Rattle.std.specs.Prelude.{◌≡◌, ℕ, ◌+◌, ◌==◌, true, List, ◌++◌, Option, Some, None, Result, Ok, Err}
use Rattle.std.specs.Prelude.{IfSome, if◌then◌else◌, slice_get, take}
use Rattle.std.specs.List.{filter_map}
use Rattle.shx_outside.specs.Outside.{FlaggedText}
use Rattle.shx_term.specs.declared.fault_codes.TheConstants.{PATTERN_REFUSED, TEXT_TOO_LONG}
use Rattle.shx_term.specs.declared.term.Scope.TheVariants.{Shapes as of_shapes}
use Rattle.shx_term.specs.declared.term.Term.{Term}
use Rattle.shx_term.specs.declared.triple.Triple.{Triple}
use Rattle.shx_term.specs.declared.triple.TermTriple.{TermTriple}
use Rattle.shx_term.specs.Vocabulary.{vocabulary}
use Rattle.graph_view.specs.Graph.{Graph}
use Rattle.edit_engine.specs.Applied.{SamePlan}
use Rattle.edit_engine.specs.EngineState.{EngineState}
use Rattle.shape_eval.specs.Plan.{Planned}
use Rattle.plan_swap.specs.Alike.{AreAlikes}
use Rattle.report_write.specs.declared.answer.Answer.{Answer}
use Rattle.report_write.specs.declared.answer.Answer.TheVariants.{TextFault, Rule, OfShape}
use Rattle.shape_text.specs.declared.refusal.Refusal.{Refusal}
use Rattle.shape_text.specs.declared.refusal.Refusal.TheVariants.{Text, Cut}
use Rattle.shape_text.specs.declared.stop.Stop.{Stop}
use Rattle.shape_text.specs.TextReadings.{TextReading, IsReadAs}
use Rattle.script_run.specs.declared.reply.Reply.{Reply}
use Rattle.script_run.specs.declared.reply.Reply.TheVariants.{Answers}
use Rattle.script_run.specs.declared.script_run.ScriptRun.{ScriptRun}
use Rattle.script_run.specs.Load.{Judgement, StatesValid, is_pattern_refused}
use Rattle.script_run.specs.Loaded.{IsJudged}
use Rattle.script_run.specs.Manner.{Manner}
use Rattle.script_run.specs.Replies.{AnswersOn, Replies}
use Rattle.script_run.specs.Script.{Step, refusal, takes_shapes, text_step}
use Rattle.script_run.specs.ScriptState.{ScriptState}
use Rattle.script_run.specs.Stored.{IsScriptRun, MayGoOn}
use Rattle.script_run.specs.Work.{Work}

-- ---- triples of terms

abbrev pub triple_of_terms : Option Term → Option Term → Option Term → Option TermTriple
triple_of_terms (Some s) (Some p) (Some o) = Some (record { s = s; p = p; o = o })
triple_of_terms (Some s) (Some p) None = None
triple_of_terms (Some s) None o = None
triple_of_terms None p o = None

-- a triple over the terms of its numbers, where all three have one
abbrev pub stated_triple : List Term → Triple → Option TermTriple
stated_triple terms t = triple_of_terms (slice_get terms t.s) (slice_get terms t.p) (slice_get terms t.o)

abbrev pub stated_triples : List Term → List Triple → List TermTriple
stated_triples terms triples = filter_map (stated_triple terms) triples

-- ---- terms beside the graph

-- perhaps more terms were entered, and all else stays
pub record Grows (old new : EngineState) : Type 0 where
  pub plan : SamePlan old new
  pub settled : new.settled ≡ old.settled
  pub remembered : new.remembered ≡ old.remembered
  pub triples : new.graph.triples ≡ old.graph.triples
  pub more : List Term
  pub terms : new.graph.terms ≡ old.graph.terms ++ more

-- the run of a script without its terms from this number on
abbrev pub cut_at : ℕ → ScriptRun → ScriptRun
cut_at held script = record script {
  engine = record script.engine {
    graph = record {
      terms = take held script.engine.graph.terms;
      triples = script.engine.graph.triples;
    };
  };
}

-- the graph of a state over other terms
abbrev pub over_terms : ScriptState → List Term → Graph
over_terms s terms = record { terms = terms; triples = s.graph.triples }

-- ---- refusals

-- the line is refused by this code
pub record RefusesBy (code : ℕ) (old new : ScriptRun) (reply : Reply) : Type 0 where
  pub replies : (manner : Manner) (s : ScriptState) (work : Work)
      → IsScriptRun manner.limits manner.format s old
      → Replies manner (refusal s code None) reply new work work
  pub running : new.halted ≡ old.halted
  pub moves : MayGoOn old → (work : Work) → AnswersOn reply old new work work

-- the code that an answer tells
abbrev pub told_code : Answer → ℕ
told_code (TextFault role code at) = code
told_code (Rule code shape predicate term) = code
told_code (OfShape code shape) = code
told_code answer = TEXT_TOO_LONG

-- a text that could not be taken: the line is refused, or the run is cut short
abbrev pub RefusesText : Refusal → ScriptRun → ScriptRun → Result Reply Stop → Type 0
RefusesText (Text answer) old new (Ok reply) = RefusesBy (told_code answer) old new reply
RefusesText (Text answer) old new (Err stop) = ⊥
RefusesText (Cut stop) old new result = (result ≡ Err stop) × (new ≡ old)

-- the shape whose pattern the host refused, where an answer tells of one
abbrev pub refused_shape : Answer → Option ℕ
refused_shape (OfShape code shape) = if code == PATTERN_REFUSED then Some shape else None
refused_shape answer = None

-- the line tells of this shape, and the script ends with it
pub record Halts (shape : ℕ) (old new : ScriptRun) (reply : Reply) : Type 0 where
  pub reply_is : reply ≡ Answers (OfShape PATTERN_REFUSED shape)
  pub ended : new ≡ record old { line = old.line + 1; halted = true }

-- what comes of shapes that make no plan: terms that were entered for them from this number on are given back
abbrev pub RefusesShapes : ℕ → Answer → Option ℕ → ScriptRun → ScriptRun → Reply → Type 0
RefusesShapes held answer None old new reply = RefusesBy (told_code answer) (cut_at held old) new reply
RefusesShapes held answer (Some shape) old new reply = Halts shape old new reply

-- ---- what comes of a text

-- the shapes are those of the plan
pub record TakesPlan (manner : Manner) (s : ScriptState) (plan : Planned) (reply : Reply) (script : ScriptRun)
    (before after : Work) : Type 0 where
  pub alikes : List (Option ℕ)
  pub are_alikes : AreAlikes s.plan.shapes plan.shapes alikes
  pub replies : Replies manner (takes_shapes s s.graph plan alikes) reply script before after

-- the shapes come to something, by which this is the step of the line; where the script ends with it, it is
-- right for what the host refused last
pub record Comes (manner : Manner) (step : Judgement → Step)
    (IsRight : Option FlaggedText → Judgement → Type 0) (reply : Reply) (script : ScriptRun)
    (last : Option FlaggedText) (before after : Work) : Type 0 where
  pub judgement : Judgement
  pub right : (refused : Option FlaggedText) → ((step judgement).state.halted ≡ true → refused ≡ last)
      → IsRight refused judgement
  pub halts : is_pattern_refused judgement ≡ (step judgement).state.halted
  pub replies : Replies manner (step judgement) reply script before after

-- ... of a text that is read so
abbrev pub ComesOf : Manner → ScriptState → TextReading → Reply → ScriptRun → Option FlaggedText → Work → Work
    → Type 0
ComesOf manner s reading reply script last before after =
    Comes manner (text_step manner.limits s reading)
    (λ refused judgement. IsJudged manner.limits refused s reading judgement) reply script last before after

-- a text, where it is told, is read so, and this comes of it
pub record Loads (manner : Manner) (base : List ℕ) (text : Option (List ℕ)) (s : ScriptState) (reply : Reply)
    (script : ScriptRun) (last : Option FlaggedText) (before after : Work) : Type 0 where
  pub reading : TextReading
  pub read : IfSome text (λ bytes. IsReadAs manner.limits base of_shapes vocabulary bytes reading)
  pub valid : StatesValid reading
  pub comes : ComesOf manner s reading reply script last before after
