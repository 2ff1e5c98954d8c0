-- What follows where nothing outside fails: a run answers as is due, or memory is wanted.
use Rattle.std.specs.Prelude.{◌≡◌, ◌≢◌, ℕ, ◌≤◌, ◌⊎◌, false, List, length, Option, Some, IfSome}
use Rattle.shx_outside.specs.Counted.{last_count}
use Rattle.shx_outside.specs.Outside.{FlaggedText}
use Rattle.shx_outside.specs.OpenTexts.{OpenTexts, texts_told}
use Rattle.shx_term.specs.declared.limits.Limits.{Limits}
use Rattle.graph_view.specs.Graph.{Graph}
use Rattle.shx_term.specs.declared.term.Scope.TheVariants.{Shapes as of_shapes}
use Rattle.shx_term.specs.declared.term.Term.{Term}
use Rattle.shx_term.specs.Vocabulary.{vocabulary}
use Rattle.ttl_meaning.specs.State.{State}
use Rattle.shape_decl.specs.Declarations.{Declaration, declarations}
use Rattle.shape_compile.specs.Patterns.{StatesPattern}
use Rattle.command_words.specs.Words.{command_words}
use Rattle.shacl_run.specs.declared.status.Status.{Status}
use Rattle.shacl_run.specs.declared.status.Status.TheVariants.{Memory}
use Rattle.script_run.specs.Admitted.{MayLoad}
use Rattle.script_run.specs.Load.{Load}
use Rattle.script_run.specs.Loaded.{Library}
use Rattle.script_run.specs.Replies.{is_any_refused}
use Rattle.shacl_run.specs.Loads.{AreLoaded, words_library, words_lines}
use Rattle.shacl_run.specs.Outside.{Outside}
use Rattle.shacl_run.specs.Readings.{Readings}
use Rattle.shape_text.specs.TextReadings.{States, IsReadAs, numbered_from, stated_graph}
use Rattle.shape_text.specs.ShapesReadings.{AreJudged}
use Rattle.shacl_run.specs.Run.{Output, run_output}
use Rattle.shacl_run.specs.RunClauses.{DataIsReadBy, LinesAreReadBy, ShapesAreReadBy, WritesWhole}
use Rattle.shacl_run.specs.RunClauses.{words_shapes}
use Rattle.shape_text.specs.Verdict.{Verdict, refuses_pattern}

-- ---- nothing fails

-- a count did not rise, and could have risen
pub record IsCalm (before now : ℕ) : Type 0 where
  pub same : now ≡ before
  pub can_rise : before ≢ last_count

-- no call of the inputs, of the sink or of the pattern host failed
pub record NothingFailed (before after : Outside) : Type 0 where
  pub inputs : IsCalm before.inputs.faults after.inputs.faults
  pub sink : IsCalm before.sink.faults after.sink.faults
  pub patterns : IsCalm before.patterns.faults after.patterns.faults

-- ---- what is due is written

-- this comes of the texts that the script loads, no pattern of which is refused, and the output that is then
-- due was written whole, where the texts are told
pub record IsDueBy (limits : Limits) (readings : Readings) (words : List (List ℕ)) (before after : Outside)
    (status : Status) (verdict : Verdict) : Type 0 where
  pub loads : List Load
  pub right : AreLoaded ⊥ limits readings verdict after.patterns.refused words before.inputs.text loads
  pub all_built : is_any_refused loads ≡ false
  pub whole : IfSome (run_output limits readings verdict loads words before.inputs.text)
      (λ output. WritesWhole output before after status)

-- by a verdict that the shapes come to, in which no pattern is refused, what is due was written
pub record IsDue (limits : Limits) (readings : Readings) (words : List (List ℕ)) (before after : Outside)
    (status : Status) : Type 0 where
  pub verdict : Verdict
  pub judged : AreJudged limits readings.shapes (words_shapes before.inputs.text (command_words words))
      verdict
  pub built : refuses_pattern verdict ≡ false
  pub written : DataIsReadBy limits readings verdict (command_words words) before.inputs.text
      → LinesAreReadBy limits readings verdict (command_words words) before.inputs.text
      → IsDueBy limits readings words before after status verdict

-- the run wanted memory, or what is due was written, whatever the texts are read as
abbrev pub IsComplete : Limits → List (List ℕ) → Outside → Outside → Status → Type 0
IsComplete limits words before after status =
    (readings : Readings) → ShapesAreReadBy limits readings (command_words words) before.inputs.text
    → (status ≡ Memory) ⊎ IsDue limits readings words before after status

-- ---- shapes without patterns

-- no shape that a graph states has a pattern
abbrev pub StatesNoPattern : Limits → Graph → Type 0
StatesNoPattern limits g =
    (d : Declaration) (value : ℕ) → StatesPattern (declarations limits g) d value → ⊥

-- a text of shapes is told, and whatever terms are held before it, no shape that it states has a pattern
pub record LoadsNoPattern (limits : Limits) (library : Library) (name : List ℕ) : Type 0 where
  pub bytes : List ℕ
  pub told : library.text name ≡ Some bytes
  pub none : (document : Graph) (end : State)
      → IsReadAs limits library.base of_shapes vocabulary bytes (States document end) → (held : List Term)
      → StatesNoPattern limits (stated_graph (numbered_from held end.triples))

-- the shapes text is told, and no shape that it states has a pattern; nor has one of a text that the script
-- may load
pub record HasNoPattern (limits : Limits) (readings : Readings) (words : List (List ℕ)) (before : Outside)
    : Type 0 where
  pub bytes : List ℕ
  pub told : words_shapes before.inputs.text (command_words words) ≡ Some bytes
  pub none : (document : Graph) (end : State) → readings.shapes ≡ States document end
      → StatesNoPattern limits (stated_graph document)
  pub loads : (name : List ℕ)
      → MayLoad limits (words_lines limits (command_words words) before.inputs.text) name
      → LoadsNoPattern limits (words_library (command_words words) before.inputs.text) name

-- ---- room for the output

-- the sink has room for an output
pub record HasRoomFor (before : Outside) (due : Option Output) : Type 0 where
  pub output : Output
  pub is : due ≡ Some output
  pub room : ℕ
  pub has : before.sink.room ≡ Some room
  pub fits : length output.text ≤ room

-- the data text and the lines are read so, and there is room for what is due by all that may come of the
-- texts that the script loads, be it told of the first of them alone
pub record HasRoom (limits : Limits) (readings : Readings) (words : List (List ℕ)) (before : Outside)
    (verdict : Verdict) : Type 0 where
  pub data_text : DataIsReadBy limits readings verdict (command_words words) before.inputs.text
  pub lines : LinesAreReadBy limits readings verdict (command_words words) before.inputs.text
  pub room : (loads : List Load) (last : Option FlaggedText)
      → AreLoaded Unit limits readings verdict last words before.inputs.text loads
      → HasRoomFor before (run_output limits readings verdict loads words before.inputs.text)

-- by each verdict that the shapes come to
abbrev pub HasRoomByAny : Limits → Readings → List (List ℕ) → Outside → Type 0
HasRoomByAny limits readings words before =
    (verdict : Verdict)
    → AreJudged limits readings.shapes (words_shapes before.inputs.text (command_words words)) verdict
    → HasRoom limits readings words before verdict

-- ---- a run that nothing disturbs

-- the texts are told and none fails to be read, no shape states a pattern, and the sink has room for what is
-- due
pub record IsUndisturbed (limits : Limits) (readings : Readings) (words : List (List ℕ))
    (before after : Outside) : Type 0 where
  pub texts : OpenTexts
  pub texts_left : OpenTexts
  pub told : before.inputs ≡ texts_told 0 texts
  pub honest : after.inputs ≡ texts_told 0 texts_left
  pub shapes : ShapesAreReadBy limits readings (command_words words) before.inputs.text
  pub no_pattern : HasNoPattern limits readings words before
  pub room : HasRoomByAny limits readings words before

-- by a verdict that the shapes come to, and by what comes of the texts that are loaded, the defined output
-- stands written, and the run ended with its status
pub record WritesDefined (limits : Limits) (readings : Readings) (words : List (List ℕ))
    (before after : Outside) (status : Status) : Type 0 where
  pub verdict : Verdict
  pub judged : AreJudged limits readings.shapes (words_shapes before.inputs.text (command_words words))
      verdict
  pub built : refuses_pattern verdict ≡ false
  pub loads : List Load
  pub right : AreLoaded ⊥ limits readings verdict after.patterns.refused words before.inputs.text loads
  pub all_built : is_any_refused loads ≡ false
  pub output : Output
  pub defined : run_output limits readings verdict loads words before.inputs.text ≡ Some output
  pub written : WritesWhole output before after status
