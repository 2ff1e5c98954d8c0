-- A run over the files that the words name.
use Rattle.std.specs.Prelude.{ℕ, List, Option, IfSome, Some, ◌⊎◌}
use Rattle.std.specs.Option.{option_and_then}
use Rattle.shx_outside.specs.declared.role.Role.TheVariants.{Data, Script}
use Rattle.shx_outside.specs.Counted.{Rose}
use Rattle.shx_outside.specs.Outside.{FlaggedText, InputState}
use Rattle.shx_term.specs.declared.limits.Limits.{Limits}
use Rattle.shacl_run.specs.declared.status.Status.{Status}
use Rattle.shacl_run.specs.Outside.{Outside}
use Rattle.shacl_run.specs.Run.{Output, IsOpening, manner_of, opening_fed, opening_output, run_output}
use Rattle.shacl_run.specs.Run.{script_text, texts_opening}
use Rattle.shacl_run.specs.Readings.{Readings, DataIsRead}
use Rattle.shape_text.specs.ShapesReadings.{AreJudged, HavePlan, ShapesAreRead}
use Rattle.shacl_run.specs.RunClauses.{ByVerdict, DataIsReadBy, IsOpenedBy, LinesAreReadBy, OpensOnly}
use Rattle.shacl_run.specs.RunClauses.{ScriptStops, StopsEarly, StopsFed, words_shapes}
use Rattle.shape_text.specs.Verdict.{Verdict}
use Rattle.command_words.specs.Asked.{Asked}
use Rattle.command_words.specs.Words.{command_words}
use Rattle.script_run.specs.Load.{Load}
use Rattle.shacl_run.specs.Loads.{AreLoaded, AreOpeningLoaded, is_refused_by, words_library}
use Rattle.shacl_run.specs.Status.{IsCutShort}
use Rattle.shacl_run.specs.inner.Ends.{EndsBy}

abbrev pub files_output : Limits → Readings → Verdict → Asked → (List ℕ → Option (List ℕ)) → List Load
    → Option Output
files_output limits readings verdict asked texts loads =
    option_and_then
    (opening_output (manner_of limits readings asked.format) loads
    (script_text texts asked.files.script_file))
    (texts_opening asked.format readings verdict (texts asked.files.shapes_file)
    (texts asked.files.data_file))

abbrev pub FilesStop : Limits → Readings → Verdict → Asked → Outside → Outside → List Load → Type 0
FilesStop limits readings verdict asked before after loads =
    IfSome (texts_opening asked.format readings verdict (before.inputs.text asked.files.shapes_file)
    (before.inputs.text asked.files.data_file))
    (λ opening. StopsFed (opening_fed (manner_of limits readings asked.format) loads opening)
    (script_text before.inputs.text asked.files.script_file) (after.inputs.rest Script) before.sink
    after.sink)

abbrev pub FilesAreLoaded : Type 0 → Limits → Readings → Verdict → Asked → Option FlaggedText
    → (List ℕ → Option (List ℕ)) → List Load → Type 0
FilesAreLoaded Missing limits readings verdict asked last texts loads =
    IfSome (texts_opening asked.format readings verdict (texts asked.files.shapes_file)
    (texts asked.files.data_file))
    (AreOpeningLoaded Missing (manner_of limits readings asked.format) (words_library (Some asked) texts) last
    (script_text texts asked.files.script_file) loads)

-- nothing is opened behind a text that is refused
pub record FilesOpenOnly (readings : Readings) (verdict : Verdict) (asked : Asked)
    (before after : InputState) : Type 0 where
  pub data_text : IsOpenedBy before after Data
      → IfSome (before.text asked.files.shapes_file) (λ text. HavePlan readings.shapes verdict)
  pub script : IsOpenedBy before after Script
      → IfSome (texts_opening asked.format readings verdict (before.text asked.files.shapes_file)
      (before.text asked.files.data_file)) IsOpening

-- how the run ends, and what it opens
pub record Serves (Due : List Load → Option Output) (Right Stops : List Load → Type 0) (Opens : Type 0)
    (verdict : Verdict) (status : Status) (before after : Outside) : Type 0 where
  pub by : EndsBy Due Right (λ told. IsOpenedBy before.inputs after.inputs Script → Stops told)
      (is_refused_by verdict) status before after
  pub opened : Opens

-- the same by the verdict that the shapes come to, where the data text is read as it is
abbrev pub RunsFiles : Limits → Readings → Asked → Outside → Outside → Status → Type 0
RunsFiles limits readings asked before after status =
    ByVerdict limits readings.shapes (before.inputs.text asked.files.shapes_file) before.patterns
    after.patterns (λ verdict.
    DataIsRead limits asked.base readings verdict (before.inputs.text asked.files.data_file)
    → LinesAreReadBy limits readings verdict (Some asked) before.inputs.text
    → Serves (files_output limits readings verdict asked before.inputs.text)
    (FilesAreLoaded (IsCutShort status) limits readings verdict asked after.patterns.refused
    before.inputs.text)
    (FilesStop limits readings verdict asked before after)
    (FilesOpenOnly readings verdict asked before.inputs after.inputs) verdict status before after)
    ⊎ StopsEarly before after status

-- the texts of the files have a reading, and the shapes a verdict; and the lines, where no pattern was
-- refused
pub record FilesAreRead (limits : Limits) (asked : Asked) (before after : Outside) : Type 0 where
  pub readings : Readings
  pub shapes : ShapesAreRead limits asked.base readings.shapes (before.inputs.text asked.files.shapes_file)
  pub verdict : Verdict
  pub judged : AreJudged limits readings.shapes (before.inputs.text asked.files.shapes_file) verdict
  pub data_text : DataIsRead limits asked.base readings verdict (before.inputs.text asked.files.data_file)
  pub lines : (Rose before.patterns.faults after.patterns.faults → ⊥)
      → LinesAreReadBy limits readings verdict (Some asked) before.inputs.text

-- ---- words

-- the same of words, which name files or not
abbrev pub RunsWords : Limits → Readings → List (List ℕ) → Outside → Outside → Status → Type 0
RunsWords limits readings words before after status =
    ByVerdict limits readings.shapes (words_shapes before.inputs.text (command_words words)) before.patterns
    after.patterns
    (λ verdict. DataIsReadBy limits readings verdict (command_words words) before.inputs.text
    → LinesAreReadBy limits readings verdict (command_words words) before.inputs.text
    → Serves (λ loads. run_output limits readings verdict loads words before.inputs.text)
    (AreLoaded (IsCutShort status) limits readings verdict after.patterns.refused words before.inputs.text)
    (λ loads. ScriptStops limits readings verdict loads words before after)
    (OpensOnly readings verdict words before.inputs after.inputs) verdict status before after)
    ⊎ StopsEarly before after status
