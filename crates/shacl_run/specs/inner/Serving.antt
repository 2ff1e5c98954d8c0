-- A run within a script: what is due from a state on, and what taking a line gives.
use Rattle.std.specs.Prelude.{◌≡◌, ◌≢◌, ℕ, Bool, true, All, List, [], ◌++◌, Option, None, Some}
use Rattle.std.specs.Prelude.{IfSome, Result, Ok, Err}
use Rattle.std.specs.Option.{option_map}
use Rattle.shx_outside.specs.Counted.{Rose}
use Rattle.shx_outside.specs.declared.role.Role.TheVariants.{Data, Shapes, Script as of_script}
use Rattle.shx_outside.specs.Outside.{FlaggedText, InputState, SinkState}
use Rattle.shx_outside.specs.Told.{SameTexts}
use Rattle.text_output.specs.declared.format.Format.{Format}
use Rattle.shx_term.specs.declared.limits.Limits.{Limits}
use Rattle.shx_term.specs.declared.term.Term.{Term}
use Rattle.ttl_meaning.specs.State.{State}
use Rattle.script_run.specs.Manner.{LineReadings, Manner}
use Rattle.script_run.specs.LineReadings.{IsReadBehind}
use Rattle.text_input.specs.Lines.{script_lines}
use Rattle.text_input.specs.ScriptReader.{KeepsCount, MetEnd, ReaderState, TookEnd, TookLine, left_of}
use Rattle.text_output.specs.Writes.{Put, FellShort}
use Rattle.script_run.specs.declared.reply.Reply.{Reply}
use Rattle.script_run.specs.declared.script_run.ScriptRun.{ScriptRun}
use Rattle.shacl_run.specs.declared.status.Status.{Status}
use Rattle.shape_text.specs.declared.stop.Stop.{Stop}
use Rattle.shape_text.specs.declared.stop.Stop.TheVariants.{Input, Write, Memory}
use Rattle.shacl_run.specs.declared.take_line.Taken.{Taken}
use Rattle.shacl_run.specs.declared.take_line.Taken.TheVariants.{Replied, End}
use Rattle.shape_eval.specs.Report.{report}
use Rattle.report_write.specs.declared.answer.Answer.TheVariants.{GroupDropped}
use Rattle.report_write.specs.Answers.{answer_text}
use Rattle.script_run.specs.Replies.{Replies, is_any_refused, leaving}
use Rattle.shacl_run.specs.Outside.{Outside}
use Rattle.shacl_run.specs.RunClauses.{IsOpenedBy, StopsFed}
use Rattle.shacl_run.specs.Status.{IsCutShort, IsReported}
use Rattle.shacl_run.specs.inner.Ends.{EndsBy}
use Rattle.shacl_run.specs.Run.{Output, behind, fed_text, first_text, opening_fed, output_from}
use Rattle.shacl_run.specs.Run.{opens, status_of_rows, validation_output}
use Rattle.script_run.specs.Script.{Step, first_work, script_step}
use Rattle.script_run.specs.Hosts.{ReadsShapesOut, TakesShapesWithin, TellsRefusal}
use Rattle.script_run.specs.Load.{Load}
use Rattle.script_run.specs.Loaded.{AreLinesLoaded, IsReadingLoaded, Library}
use Rattle.script_run.specs.ScriptState.{ScriptState, with_loads}
use Rattle.script_run.specs.Stored.{IsScriptRun}
use Rattle.script_run.specs.Work.{Work, and_then}

-- the notice that a group was open at the end
abbrev pub open_notice : {X : Type 0} → Format → List Term → Option X → List ℕ
open_notice format terms None = []
open_notice format terms (Some waiting) = answer_text format terms GroupDropped

-- the output that is due from a state on, where the rest of the script is told
abbrev pub due_at : Manner → ScriptState → ℕ → Option (List ℕ) → Option Output
due_at manner s budget left = option_map (output_from manner s budget) left

-- each line of the rest of the script is read so, where it is told
abbrev pub LinesAreReadAt : Manner → ScriptState → ℕ → Option (List ℕ) → Type 0
LinesAreReadAt manner s budget left =
    IfSome left (λ bytes. All (λ line. IsReadBehind manner.limits s.data_end line (manner.lines line))
    (script_lines budget bytes))

-- each of them has a reading
abbrev pub HaveReadings : Limits → State → ℕ → Option (List ℕ) → Type 0
HaveReadings limits end budget left =
    IfSome left (λ bytes. (lines : LineReadings)
    × All (λ line. IsReadBehind limits end line (lines line)) (script_lines budget bytes))

-- this comes of the texts that they load, where they are told
abbrev pub AreLoadedAt : Type 0 → Manner → Library → Option FlaggedText → ScriptState → ℕ → Option (List ℕ)
    → Type 0
AreLoadedAt Missing manner library last s budget left =
    IfSome left (λ bytes. AreLinesLoaded Missing manner library last s (script_lines budget bytes))

-- the rest of a script is answered from a state on
abbrev pub ServesScript : Manner → Library → ScriptState → ℕ → Status → Outside → Outside → Type 0
ServesScript manner library s budget status before after =
    EndsBy (λ told. due_at manner (with_loads told s) budget (before.inputs.rest of_script))
    (λ told. AreLoadedAt (IsCutShort status) manner library after.patterns.refused (with_loads told s) budget
    (before.inputs.rest of_script))
    (λ told. StopsFed (fed_text manner (with_loads told s)) (before.inputs.rest of_script)
    (after.inputs.rest of_script) before.sink after.sink)
    is_any_refused status before after

-- the report of a validation is written behind its notices, and then its script is answered, where it is
-- opened
abbrev pub RunsScript : Manner → Library → ℕ → ScriptState → Option (List ℕ) → Status → Outside → Outside
    → Type 0
RunsScript manner library notices s script status before after =
    EndsBy (λ told. option_map (validation_output manner notices (with_loads told s)) script)
    (λ told. AreLoadedAt (IsCutShort status) manner library after.patterns.refused (with_loads told s)
    manner.limits.script script)
    (λ told. IsOpenedBy before.inputs after.inputs of_script
    → StopsFed (opening_fed manner told (opens notices s)) script (after.inputs.rest of_script) before.sink
    after.sink)
    is_any_refused status before after

-- what a script does to the inputs beside being read: it may open texts of shapes, and no more than one byte
-- past the limit is taken of any; where it gave its reports to the end, the last is read to its end, or too
-- long
pub record ServesInputs (limits : Limits) (old new : InputState) (status : Status) : Type 0 where
  pub data_opens : new.opens Data ≡ old.opens Data
  pub data_whole : new.whole Data ≡ old.whole Data
  pub data_rest : new.rest Data ≡ old.rest Data
  pub shapes_opens : (count : ℕ) → Rose count (old.opens Shapes) → Rose count (new.opens Shapes)
  pub shapes_within : TakesShapesWithin limits.text old → TakesShapesWithin limits.text new
  pub shapes_out : IsReported status → ReadsShapesOut limits.text old → ReadsShapesOut limits.text new
  pub texts : SameTexts old new

-- the output is this text with this work, and then the later output
pub record Prefixed (front : List ℕ) (work : Work) (later : Option Output) (output : Output) : Type 0 where
  pub rest : Output
  pub is : later ≡ Some rest
  pub whole : output ≡ behind front work rest

-- a line is answered by a step, and so it is whatever comes of the texts that later lines load; what comes of
-- its own is `told` and right, and a pattern that was refused is the last one
pub record IsAnsweredBy (manner : Manner) (library : Library) (s : ScriptState) (told : List Load)
    (step : Step) (last : Option FlaggedText) (line : List ℕ) : Type 0 where
  pub is : (rest : List Load) → script_step manner (with_loads (told ++ rest) s) line ≡ leaving rest step
  pub right : (rest : List Load) (refused : Option FlaggedText) → (step.state.halted ≡ true → refused ≡ last)
      → IsReadingLoaded ⊥ manner.limits library refused (with_loads (told ++ rest) s) (manner.lines line)

-- a line was taken of what is left, and the reply is what its step says
pub record AnswersLine (manner : Manner) (library : Library) (s : ScriptState) (reply : Reply)
    (script : ScriptRun) (last : Option FlaggedText) (before after : Work) (reader reader' : ReaderState)
    (left left' : Option (List ℕ)) : Type 0 where
  pub told : List Load
  pub step : Step
  pub took : TookLine left left' reader.budget reader'.budget reader'.ended
      (IsAnsweredBy manner library s told step last)
  pub halts : is_any_refused told ≡ step.state.halted
  pub replies : Replies manner step reply script before after

-- what came of a line, with where the counters stood before and stand after
abbrev pub TakesLine : Manner → Library → ScriptState → ScriptRun → Option FlaggedText → Work → Work
    → ReaderState → ReaderState → Option (List ℕ) → Option (List ℕ) → Taken → Type 0
TakesLine manner library s script last before after reader reader' left left' (Replied reply) =
    AnswersLine manner library s reply script last before after reader reader' left left'
TakesLine manner library s script last before after reader reader' left left' (End past) =
    IsScriptRun manner.limits manner.format s script × TookEnd left left' reader.budget past
    × (after ≡ before)

-- an input failed where a line was to be taken, or behind it where its text was: what was taken of the script
-- is answered by nothing; and where the reader had met the end, a line was left to take
pub record StopsTaking (manner : Manner) (s : ScriptState) (ended : Bool) (left rest' : Option (List ℕ))
    : Type 0 where
  pub some : ended ≡ true → left ≢ Some []
  pub silent : (sink : SinkState) → StopsFed (fed_text manner (with_loads [] s)) left rest' sink sink

-- lines of a script are taken, and texts of shapes loaded: the script stays opened, and is not opened again;
-- what was counted of it stays so, and what the names hold; the data text stays as it is; no more than one
-- byte past the limit is taken of any text of shapes
pub record ServesOn (limits : Limits) (before : ReaderState) (inputs : InputState) (after : ReaderState)
    (inputs' : InputState) : Type 0 where
  pub opened : inputs'.opened of_script ≡ true
  pub opens : inputs'.opens of_script ≡ inputs.opens of_script
  pub whole : inputs'.whole of_script ≡ inputs.whole of_script
  pub met : MetEnd after.ended (inputs'.rest of_script)
  pub kept : KeepsCount before (inputs.rest of_script) after (inputs'.rest of_script)
  pub data_opens : inputs'.opens Data ≡ inputs.opens Data
  pub data_whole : inputs'.whole Data ≡ inputs.whole Data
  pub data_rest : inputs'.rest Data ≡ inputs.rest Data
  pub shapes_opens : (count : ℕ) → Rose count (inputs.opens Shapes) → Rose count (inputs'.opens Shapes)
  pub shapes_within : TakesShapesWithin limits.text inputs → TakesShapesWithin limits.text inputs'
  pub texts : SameTexts inputs inputs'

-- where the lines behind a line that was taken have readings, it and these have
abbrev pub GivesReadings : Limits → State → ReaderState → ReaderState → Option (List ℕ) → Option (List ℕ)
    → Taken → Type 0
GivesReadings limits end reader reader' rest rest' (Replied reply) =
    HaveReadings limits end reader'.budget (left_of reader' rest')
    → HaveReadings limits end reader.budget (left_of reader rest)
GivesReadings limits end reader reader' rest rest' (End past) =
    HaveReadings limits end reader.budget (left_of reader rest)

-- a line was answered, and then this is so
abbrev pub OnReplied : Type 0 → Taken → Type 0
OnReplied Holds (Replied reply) = Holds
OnReplied Holds (End past) = Unit {0}

-- the pattern host's count of refusals rose where the script ends with the line, and in no other case
abbrev pub TakesPatterns : ℕ → ℕ → Bool → Taken → Type 0
TakesPatterns before now halted (Replied reply) = TellsRefusal before now halted reply
TakesPatterns before now halted (End past) = now ≡ before

-- a report was put whole behind a notice, and the run may end with this status; or it was cut short, or
-- memory was wanted before it
abbrev pub PutsReport : Format → ℕ → ScriptState → SinkState → SinkState → Work → Work → Result Status Stop
    → Type 0
PutsReport format notices s sink sink' before after (Ok status) =
    Put sink sink' (first_text format notices s)
    × (status ≡ status_of_rows (report s.plan s.graph))
    × (after ≡ and_then before (first_work s))
PutsReport format notices s sink sink' before after (Err Input) = ⊥
PutsReport format notices s sink sink' before after (Err Write) =
    FellShort sink sink' (first_text format notices s)
PutsReport format notices s sink sink' before after (Err Memory) = sink' ≡ sink
