-- Texts of shapes that the lines of a script load: what is told of each is right.
use Rattle.std.specs.Prelude.{◌≡◌, ℕ, ◌<◌, ◌≤◌, false, List, [], ◌∷◌, length, Option, Some, None, IfSome}
use Rattle.std.specs.Prelude.{Result, Ok}
use Rattle.shx_outside.specs.Outside.{FlaggedText, InputState}
use Rattle.shx_term.specs.declared.edit.Edit.{Edit}
use Rattle.shx_term.specs.declared.limits.Limits.{Limits}
use Rattle.shx_term.specs.declared.term.Scope.TheVariants.{Shapes as of_shapes}
use Rattle.shx_term.specs.Vocabulary.{vocabulary}
use Rattle.ttl_meaning.specs.State.{State}
use Rattle.script_lines.specs.declared.command.Command.{Command}
use Rattle.script_lines.specs.declared.command.Command.TheVariants.{Shapes}
use Rattle.script_lines.specs.declared.fault.LineFault.{LineFault}
use Rattle.shape_text.specs.TextReadings.{TextReading, States, Faulty, Long, IsReadAs}
use Rattle.script_run.specs.Load.{IsJudgement, Judgement, Load, StatesValid, unjudged}
use Rattle.script_run.specs.Manner.{Manner}
use Rattle.script_run.specs.Script.{beside_text, script_step, stated_beside}
use Rattle.script_run.specs.ScriptState.{ScriptState}

-- the texts that may be loaded: over which base they are read, and what each name holds, where that is told
pub record Library : Type 0 where
  pub base : List ℕ
  pub text : List ℕ → Option (List ℕ)

abbrev pub library_of : List ℕ → InputState → Library
library_of base inputs = record { base = base; text = inputs.text }

-- the text of a name is read so, with the terms of the vocabulary alone held
abbrev pub IsTextRead : Limits → Library → List ℕ → TextReading → Type 0
IsTextRead limits library name reading =
    IfSome (library.text name) (λ bytes. IsReadAs limits library.base of_shapes vocabulary bytes reading)

-- the shapes of a document come to this where there is room for its terms, and are not looked at where there
-- is none
pub record IsJudgedBeside (limits : Limits) (last : Option FlaggedText) (s : ScriptState) (end : State)
    (judgement : Judgement) : Type 0 where
  pub fits : length (beside_text s end).terms ≤ limits.terms
      → IsJudgement limits last s.plan (stated_beside s end) judgement
  pub has_no_room : limits.terms < length (beside_text s end).terms → judgement ≡ unjudged

abbrev pub IsJudged : Limits → Option FlaggedText → ScriptState → TextReading → Judgement → Type 0
IsJudged limits last s (States document end) judgement = IsJudgedBeside limits last s end judgement
IsJudged limits last s (Faulty code at) judgement = judgement ≡ unjudged
IsJudged limits last s Long judgement = judgement ≡ unjudged

-- this comes of the text of a name, where a script stands so
pub record IsLoad (limits : Limits) (library : Library) (last : Option FlaggedText) (s : ScriptState)
    (name : List ℕ) (load : Load) : Type 0 where
  pub read : IsTextRead limits library name load.reading
  pub valid : StatesValid load.reading
  pub judged : IsJudged limits last s load.reading load.judgement

-- the next of what is told is what comes of the text; that nothing more is told may be so where `Missing` is
abbrev pub IsNext : Type 0 → Limits → Library → Option FlaggedText → ScriptState → List ℕ → List Load → Type 0
IsNext Missing limits library last s name [] = Missing
IsNext Missing limits library last s name (load ∷ rest) = IsLoad limits library last s name load

-- within a group nothing is loaded
abbrev pub IsNextOutside : Type 0 → Limits → Library → Option FlaggedText → ScriptState → List ℕ
    → Option (List Edit) → Type 0
IsNextOutside Missing limits library last s name None = IsNext Missing limits library last s name s.loads
IsNextOutside Missing limits library last s name (Some waiting) = Unit {0}

-- what is told of the text that a line loads, by the reading of the line
abbrev pub IsReadingLoaded : Type 0 → Limits → Library → Option FlaggedText → ScriptState
    → Result Command LineFault → Type 0
IsReadingLoaded Missing limits library last s (Ok (Shapes name)) =
    IsNextOutside Missing limits library last s name s.group
IsReadingLoaded Missing limits library last s reading = Unit {0}

-- a command loads no text
abbrev pub LoadsNothing : Command → Type 0
LoadsNothing (Shapes name) = ⊥
LoadsNothing command = Unit {0}

-- what is told is right of each line, one after the other, until the script ends; and no more is told
abbrev pub AreLinesLoaded : Type 0 → Manner → Library → Option FlaggedText → ScriptState → List (List ℕ)
    → Type 0
AreLinesLoaded Missing manner library last s [] = s.loads ≡ []
AreLinesLoaded Missing manner library last s (line ∷ lines) =
    (s.halted ≡ false → IsReadingLoaded Missing manner.limits library last s (manner.lines line))
    × AreLinesLoaded Missing manner library last (script_step manner s line).state lines
