-- The texts of shapes that the lines of a run's script load: which they may be, and what comes of them.
use Rattle.std.specs.Prelude.{◌≡◌, ℕ, Bool, true, List, [], Option, Some, None, IfSome, if◌then◌else◌}
use Rattle.std.specs.Option.{option_map}
use Rattle.shx_outside.specs.declared.flags.Flags.{Flags}
use Rattle.shx_outside.specs.declared.role.Role.{Role}
use Rattle.shx_outside.specs.declared.role.Role.TheVariants.{Shapes}
use Rattle.shx_outside.specs.Outside.{FlaggedText}
use Rattle.shx_term.specs.declared.limits.Limits.{Limits}
use Rattle.text_input.specs.Lines.{script_lines}
use Rattle.command_words.specs.Asked.{Asked}
use Rattle.command_words.specs.Words.{command_words}
use Rattle.shape_text.specs.Verdict.{Verdict, refuses_pattern}
use Rattle.script_run.specs.Admitted.{AreAdmitted}
use Rattle.script_run.specs.Load.{Load}
use Rattle.script_run.specs.Loaded.{AreLinesLoaded, Library}
use Rattle.script_run.specs.Manner.{Manner}
use Rattle.script_run.specs.Replies.{is_any_refused}
use Rattle.script_run.specs.ScriptState.{with_loads}
use Rattle.shacl_run.specs.Readings.{Readings}
use Rattle.shacl_run.specs.Run.{Opening, ends, opening, opens, words_manner, words_script}

-- ---- which texts may be loaded

-- they are read over the base of the words
abbrev pub words_library : Option Asked → (List ℕ → Option (List ℕ)) → Library
words_library None texts = record { base = []; text = texts }
words_library (Some words) texts = record { base = words.base; text = texts }

-- the lines of the script, where it is told
abbrev pub words_lines : Limits → Option Asked → (List ℕ → Option (List ℕ)) → Option (List (List ℕ))
words_lines limits asked texts = option_map (script_lines limits.script) (words_script texts asked)

-- each text that the script may load may be opened for shapes, and its patterns built
abbrev pub LoadsAreAdmitted : Limits → Option Asked → (List ℕ → Option (List ℕ)) → (Role → List ℕ → Type 0)
    → (Flags → List ℕ → Type 0) → Type 0
LoadsAreAdmitted limits asked texts opened built =
    AreAdmitted limits (words_library asked texts) (opened Shapes) built (words_lines limits asked texts)

-- ---- what comes of them

-- of each line, where the script is told; a script that is not answered loads none
abbrev pub AreOpeningLoaded : Type 0 → Manner → Library → Option FlaggedText → Option (List ℕ) → List Load
    → Opening → Type 0
AreOpeningLoaded Missing manner library last script loads (ends output) = loads ≡ []
AreOpeningLoaded Missing manner library last script loads (opens notices s) =
    IfSome script (λ bytes.
    AreLinesLoaded Missing manner library last (with_loads loads s) (script_lines manner.limits.script bytes))

-- this comes of the texts that the script loads, one after the other; that nothing more is told of them may
-- be so where `Missing` is
abbrev pub AreLoaded : Type 0 → Limits → Readings → Verdict → Option FlaggedText → List (List ℕ)
    → (List ℕ → Option (List ℕ)) → List Load → Type 0
AreLoaded Missing limits readings verdict last words texts loads =
    IfSome (opening readings verdict words texts)
    (AreOpeningLoaded Missing (words_manner limits readings words)
    (words_library (command_words words) texts) last (words_script texts (command_words words)) loads)

-- a pattern was refused, of the shapes text or of a text that was loaded
abbrev pub is_refused_by : Verdict → List Load → Bool
is_refused_by verdict loads = if refuses_pattern verdict then true else is_any_refused loads
