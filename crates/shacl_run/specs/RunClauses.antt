-- What a run promises, in terms of the output that is due.
use Rattle.std.specs.Prelude.{◌≡◌, ◌≢◌, ℕ, ◌+◌, ◌<◌, ◌≤◌, true, List, [], ◌++◌, length}
use Rattle.std.specs.Prelude.{Option, Some, None, IfSome, ◌⊎◌}
use Rattle.shx_outside.specs.declared.flags.Flags.{Flags}
use Rattle.shx_outside.specs.declared.role.Role.{Role}
use Rattle.shx_outside.specs.declared.role.Role.TheVariants.{Shapes, Data, Script}
use Rattle.shx_outside.specs.Counted.{Rose}
use Rattle.shx_outside.specs.Outside.{InputState, PatternState, SinkState}
use Rattle.shx_outside.specs.Told.{Grew, Fell, IsAtEnd}
use Rattle.shx_term.specs.declared.fault_codes.TheConstants.{PATTERN_REFUSED}
use Rattle.shx_term.specs.declared.limits.Limits.{Limits}
use Rattle.shx_term.specs.declared.term.Term.{Term}
use Rattle.text_input.specs.TextRead.{TakesWithin}
use Rattle.text_output.specs.declared.format.Format.{Format}
use Rattle.text_output.specs.Writes.{Put}
use Rattle.report_write.specs.declared.answer.Answer.TheVariants.{OfShape}
use Rattle.report_write.specs.Answers.{answer_text}
use Rattle.shacl_run.specs.declared.status.Status.{Status}
use Rattle.shacl_run.specs.declared.status.Status.TheVariants.{BadWords, InputFault, WriteFault, Refused}
use Rattle.script_run.specs.Hosts.{ReadsShapesOut, TakesShapesWithin}
use Rattle.script_run.specs.Load.{Load}
use Rattle.shacl_run.specs.Loads.{AreLoaded, is_refused_by}
use Rattle.shacl_run.specs.Outside.{Outside}
use Rattle.shacl_run.specs.Run.{Output, IsOpening, run_output, opening, opening_fed, words_format}
use Rattle.shacl_run.specs.Run.{words_manner, words_script}
use Rattle.shacl_run.specs.Readings.{Readings, DataIsRead}
use Rattle.shape_text.specs.TextReadings.{TextReading}
use Rattle.shape_text.specs.ShapesReadings.{AreJudged, HavePlan, IsRefusedIn, PatternsAreAdmitted}
use Rattle.shape_text.specs.ShapesReadings.{ShapesAreRead}
use Rattle.shacl_run.specs.Readings.{LinesAreRead}
use Rattle.shape_text.specs.Verdict.{RoseWhere, Verdict, refuses_pattern}
use Rattle.shacl_run.specs.Status.{IsAnswered, IsReported, IsCutShort}
use Rattle.command_words.specs.Asked.{Asked, Files}
use Rattle.command_words.specs.Words.{command_words}

-- ---- what the texts are read as

-- the shapes text, where the words name one and it is told
abbrev pub words_shapes : (List ℕ → Option (List ℕ)) → Option Asked → Option (List ℕ)
words_shapes texts None = None
words_shapes texts (Some words) = texts words.files.shapes_file

-- it is read so
abbrev pub ShapesAreReadBy : Limits → Readings → Option Asked → (List ℕ → Option (List ℕ)) → Type 0
ShapesAreReadBy limits readings None texts = Unit {0}
ShapesAreReadBy limits readings (Some words) texts =
    ShapesAreRead limits words.base readings.shapes (texts words.files.shapes_file)

-- and so is the data text, where the shapes have a plan
abbrev pub DataIsReadBy : Limits → Readings → Verdict → Option Asked → (List ℕ → Option (List ℕ)) → Type 0
DataIsReadBy limits readings verdict None texts = Unit {0}
DataIsReadBy limits readings verdict (Some words) texts =
    DataIsRead limits words.base readings verdict (texts words.files.data_file)

-- and each line of the script
abbrev pub LinesAreReadBy : Limits → Readings → Verdict → Option Asked → (List ℕ → Option (List ℕ)) → Type 0
LinesAreReadBy limits readings verdict asked texts =
    LinesAreRead limits readings verdict (words_script texts asked)

-- the texts have a reading, and the shapes a verdict; the lines have one, unless the pattern host refused a
-- pattern, behind which none is read
pub record IsRead (limits : Limits) (words : List (List ℕ)) (before after : Outside) : Type 0 where
  pub readings : Readings
  pub shapes : ShapesAreReadBy limits readings (command_words words) before.inputs.text
  pub verdict : Verdict
  pub judged : AreJudged limits readings.shapes (words_shapes before.inputs.text (command_words words))
      verdict
  pub data_text : DataIsReadBy limits readings verdict (command_words words) before.inputs.text
  pub lines : (Rose before.patterns.faults after.patterns.faults → ⊥)
      → LinesAreReadBy limits readings verdict (command_words words) before.inputs.text

-- each pattern of the shapes text that the words name may be built
abbrev pub PatternsAreAdmittedBy : Limits → Option Asked → (List ℕ → Option (List ℕ))
    → (Flags → List ℕ → Type 0) → Type 0
PatternsAreAdmittedBy limits None texts admits = Unit {0}
PatternsAreAdmittedBy limits (Some words) texts admits =
    PatternsAreAdmitted limits words.base (texts words.files.shapes_file) admits

-- ---- what is opened

-- how often a role was opened has risen, or stands at its last value
abbrev pub IsOpened : InputState → InputState → Role → Type 0
IsOpened before after role = Rose (before.opens role) (after.opens role)

-- a role was opened, as its count shows
abbrev pub IsOpenedBy : InputState → InputState → Role → Type 0
IsOpenedBy before after role = before.opens role < after.opens role

-- the data text is opened behind the shapes text, and the script behind the data text, each at most once; and
-- none where the words cannot be read
pub record OpensInTurn (before after : InputState) (status : Status) : Type 0 where
  pub once : (role : Role) → role ≢ Shapes → after.opens role ≤ before.opens role + 1
  pub data_text : IsOpenedBy before after Data → IsOpened before after Shapes
  pub script : IsOpenedBy before after Script → IsOpened before after Data
  pub no_words : status ≡ BadWords → (role : Role) → after.opens role ≡ before.opens role

-- and none behind a text that is refused
pub record OpensOnly (readings : Readings) (verdict : Verdict) (words : List (List ℕ))
    (before after : InputState) : Type 0 where
  pub data_text : IsOpenedBy before after Data
      → IfSome (words_shapes before.text (command_words words)) (λ text. HavePlan readings.shapes verdict)
  pub script : IsOpenedBy before after Script → IfSome (opening readings verdict words before.text) IsOpening

-- ---- what is written

-- the bytes written and the status are those of the output; and where reports were given to the end, as many
-- pairs were evaluated, and as many nested ones
pub record WritesWhole (output : Output) (before after : Outside) (status : Status) : Type 0 where
  pub status_is : status ≡ output.status
  pub put : Put before.sink after.sink output.text
  pub evaluations : IsReported status → after.steps ≡ before.steps + output.work.evaluated
  pub nested_evaluations : IsReported status → after.nested ≡ before.nested + output.work.nested

-- the bytes written are a front of its text: a proper one where the sink failed
pub record WritesFront (output : Output) (before after : SinkState) (status : Status) : Type 0 where
  pub front : List ℕ
  pub rest : List ℕ
  pub whole : output.text ≡ front ++ rest
  pub proper : status ≡ WriteFault → rest ≢ []
  pub grew : Grew before.held after.held front
  pub fell : Fell before.room after.room (length front)

-- what was put is what is written up to and with the answers to the lines whose line feed was taken
pub record StopsFed (fed : List ℕ → List ℕ) (script left : Option (List ℕ)) (before after : SinkState)
    : Type 0 where
  pub told : (bytes : List ℕ) → script ≡ Some bytes
      → (taken rest : List ℕ) × (left ≡ Some rest) × (bytes ≡ taken ++ rest)
      × Grew before.held after.held (fed taken)

-- where an input failed after the script was opened, the answers to the lines that were taken whole stand
-- written, and none to a line whose text could not be read
abbrev pub ScriptStops : Limits → Readings → Verdict → List Load → List (List ℕ) → Outside → Outside → Type 0
ScriptStops limits readings verdict loads words before after =
    IfSome (opening readings verdict words before.inputs.text) (λ opening.
    StopsFed (opening_fed (words_manner limits readings words) loads opening)
    (words_script before.inputs.text (command_words words))
    (after.inputs.rest Script) before.sink after.sink)

-- of one output, which is the defined one where the texts are told that it depends on: where memory and the
-- outside serve it is written whole, and after a failure a front of it
pub record WritesBy (limits : Limits) (readings : Readings) (verdict : Verdict) (loads : List Load)
    (words : List (List ℕ)) (before after : Outside) (status : Status) : Type 0 where
  pub output : Output
  pub due : IfSome (run_output limits readings verdict loads words before.inputs.text)
      (λ defined. output ≡ defined)
  pub exact : IsAnswered status → WritesWhole output before after status
  pub prefix : IsCutShort status → WritesFront output before.sink after.sink status

-- `told` is what came of the texts that the script loaded: of all of them, unless the run was cut short. What
-- is written is due, whatever comes of the texts behind them; where an input failed within the script, up to
-- the last line that was taken. The pattern host's count rose where a pattern was refused, and only there
pub record WritesDue (limits : Limits) (readings : Readings) (verdict : Verdict) (words : List (List ℕ))
    (before after : Outside) (status : Status) : Type 0 where
  pub told : List Load
  pub right : AreLoaded (IsCutShort status) limits readings verdict after.patterns.refused words
      before.inputs.text told
  pub writes : (rest : List Load)
      → WritesBy limits readings verdict (told ++ rest) words before after status
  pub patterns : RoseWhere (is_refused_by verdict told) before.patterns.faults after.patterns.faults
  pub script_stops : status ≡ InputFault → IsOpenedBy before.inputs after.inputs Script
      → ScriptStops limits readings verdict told words before after
  pub opened : OpensOnly readings verdict words before.inputs after.inputs

-- the shapes come to one verdict, by which all is said; where it is that a pattern was refused, the pattern
-- host's count rose, and that pattern is the last that it refused
pub record ByVerdict (limits : Limits) (shapes : TextReading) (text : Option (List ℕ))
    (before after : PatternState) (Says : Verdict → Type 0) : Type 0 where
  pub verdict : Verdict
  pub judged : AreJudged limits shapes text verdict
  pub patterns : refuses_pattern verdict ≡ true → Rose before.faults after.faults
  pub refused : IfSome text (λ bytes. IsRefusedIn limits shapes verdict after.refused)
  pub says : Says verdict

-- memory or the inputs failed before the shapes had a verdict: nothing was written, and no other text opened
pub record StopsEarly (before after : Outside) (status : Status) : Type 0 where
  pub cut : IsCutShort status
  pub no_write_fault : status ≢ WriteFault
  pub nothing_put : after.sink ≡ before.sink
  pub no_script : after.inputs.opens Script ≡ before.inputs.opens Script

-- what is written, as the shapes text is read
abbrev pub Writes : Limits → Readings → List (List ℕ) → Outside → Outside → Status → Type 0
Writes limits readings words before after status =
    ByVerdict limits readings.shapes (words_shapes before.inputs.text (command_words words))
    before.patterns after.patterns (λ verdict.
    DataIsReadBy limits readings verdict (command_words words) before.inputs.text
    → LinesAreReadBy limits readings verdict (command_words words) before.inputs.text
    → WritesDue limits readings verdict words before after status)
    ⊎ StopsEarly before after status

-- ---- what failed

-- the bytes end with the line that tells of a shape whose pattern was refused
pub record TellsRefusal (format : Format) (bytes : List ℕ) : Type 0 where
  pub front : List ℕ
  pub terms : List Term
  pub shape : ℕ
  pub is : bytes ≡ front ++ answer_text format terms (OfShape PATTERN_REFUSED shape)

-- whatever the texts are read as: bytes were put behind what the sink held; a failure comes only where its
-- count rose, and otherwise no count rose
pub record HasCauses (words : List (List ℕ)) (before after : Outside) (status : Status) : Type 0 where
  pub bytes : List ℕ
  pub grew : Grew before.sink.held after.sink.held bytes
  pub fell : Fell before.sink.room after.sink.room (length bytes)
  pub input_fault : status ≡ InputFault → Rose before.inputs.faults after.inputs.faults
  pub write_fault : status ≡ WriteFault → Rose before.sink.faults after.sink.faults
  pub used_up : status ≡ WriteFault → (room : ℕ) → before.sink.room ≡ Some room → after.sink.room ≡ Some 0
  pub quiet_inputs : status ≢ InputFault → after.inputs.faults ≡ before.inputs.faults
  pub quiet_sink : status ≢ WriteFault → after.sink.faults ≡ before.sink.faults
  pub quiet_patterns : IsAnswered status → after.patterns.faults ≢ before.patterns.faults
      → (status ≡ Refused) × TellsRefusal (words_format (command_words words)) bytes

-- ---- what was read

-- each text that was opened was read to its end, but the last text of shapes where that is too long
pub record ReadsToEnd (limits : Limits) (before after : InputState) : Type 0 where
  pub each : (role : Role) → role ≢ Shapes → IsOpenedBy before after role → IsAtEnd (after.rest role)
  pub shapes_text : IsOpenedBy before after Shapes → ReadsShapesOut limits.text after

-- where the words name a script, it was opened
abbrev pub ScriptIsOpened : Option (List ℕ) → InputState → InputState → Type 0
ScriptIsOpened None before after = Unit {0}
ScriptIsOpened (Some name) before after = IsOpened before after Script

-- every text that the words name was opened, and read to its end
pub record ReadsAll (limits : Limits) (files : Files) (before after : InputState) : Type 0 where
  pub shapes_text : IsOpened before after Shapes
  pub data_text : IsOpened before after Data
  pub script : ScriptIsOpened files.script_file before after
  pub to_end : ReadsToEnd limits before after

-- no more than one byte past its limit was taken of the data text, of the script and of the text of shapes
-- that was opened last
pub record StaysWithin (limits : Limits) (before after : InputState) : Type 0 where
  pub shapes_text : IsOpenedBy before after Shapes → TakesShapesWithin limits.text after
  pub data_text : IsOpenedBy before after Data
      → TakesWithin (after.whole Data) (after.rest Data) limits.text
  pub script : IsOpenedBy before after Script
      → TakesWithin (after.whole Script) (after.rest Script) limits.script

-- ---- the whole

-- what a run promises that was given these words, of the outside before it and after it, and of its status
pub record IsRun (limits : Limits) (words : List (List ℕ)) (before after : Outside) (status : Status) : Type 0
  where
    -- what is written, whatever the texts are read as; and where it is written whole, they are read
    pub writes : (readings : Readings)
        → ShapesAreReadBy limits readings (command_words words) before.inputs.text
        → Writes limits readings words before after status
    pub read : IsAnswered status → IsRead limits words before after
    -- each text was read to its end, where a report was given to its end
    pub read_to_end : IsReported status
        → IfSome (command_words words) (λ asked. ReadsAll limits asked.files before.inputs after.inputs)
    -- a failure has its cause
    pub causes : HasCauses words before after status
    -- the texts that the words name are opened in turn
    pub opened : OpensInTurn before.inputs after.inputs status
    -- no more is taken of a text than is needed to know that it is too long
    pub within : StaysWithin limits before.inputs after.inputs
