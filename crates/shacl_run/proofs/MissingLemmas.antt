-- What is told of the texts that lines load stays right where more may be missing.
use Rattle.std.specs.Prelude.{ℕ, List, [], ◌∷◌, None, Option, Some, Result, Ok, Err}
use Rattle.std.proofs.lemmas.Option.{IfSome_then}
use Rattle.shx_outside.specs.Outside.{FlaggedText}
use Rattle.shx_term.specs.declared.edit.Edit.{Edit}
use Rattle.shx_term.specs.declared.limits.Limits.{Limits}
use Rattle.script_lines.specs.declared.command.Command.{Command}
use Rattle.script_lines.specs.declared.command.Command.TheVariants.{Edit as edits, Report, Count, Begin}
use Rattle.script_lines.specs.declared.command.Command.TheVariants.{Commit, Abandon, Undo, Redo, Slice}
use Rattle.script_lines.specs.declared.command.Command.TheVariants.{Nothing, Shapes}
use Rattle.script_lines.specs.declared.fault.LineFault.{LineFault}
use Rattle.command_words.specs.Words.{command_words}
use Rattle.shape_text.specs.Verdict.{Verdict}
use Rattle.script_run.specs.Load.{Load}
use Rattle.script_run.specs.Loaded.{AreLinesLoaded, IsNext, IsNextOutside, IsReadingLoaded, Library}
use Rattle.script_run.specs.Manner.{Manner}
use Rattle.script_run.specs.Script.{script_step}
use Rattle.script_run.specs.ScriptState.{ScriptState, with_loads}
use Rattle.text_input.specs.Lines.{script_lines}
use Rattle.shacl_run.specs.Loads.{AreLoaded, AreOpeningLoaded, words_library}
use Rattle.shacl_run.specs.Readings.{Readings}
use Rattle.shacl_run.specs.Run.{Opening, ends, opening, opens, words_manner, words_script}

module _ {M N : Type 0} (weaker : M → N) (library : Library) (last : Option FlaggedText) where
  module _ (limits : Limits) (s : ScriptState) where
    next_weaker : (name : List ℕ) (loads : List Load) → IsNext M limits library last s name loads
        → IsNext N limits library last s name loads
    next_weaker name [] missing = weaker missing
    next_weaker name (load ∷ rest) is = is

    outside_weaker : (name : List ℕ) (group : Option (List Edit))
        → IsNextOutside M limits library last s name group
        → IsNextOutside N limits library last s name group
    outside_weaker name None is = next_weaker name s.loads is
    outside_weaker name (Some waiting) is = tt

    command_weaker : (command : Command) → IsReadingLoaded M limits library last s (Ok command)
        → IsReadingLoaded N limits library last s (Ok command)
    command_weaker (edits edit) is = tt
    command_weaker Begin is = tt
    command_weaker Commit is = tt
    command_weaker Abandon is = tt
    command_weaker Undo is = tt
    command_weaker Redo is = tt
    command_weaker Report is = tt
    command_weaker Count is = tt
    command_weaker (Slice shape node) is = tt
    command_weaker (Shapes name) is = outside_weaker name s.group is
    command_weaker Nothing is = tt

    pub reading_weaker : (reading : Result Command LineFault)
        → IsReadingLoaded M limits library last s reading
        → IsReadingLoaded N limits library last s reading
    reading_weaker (Ok command) is = command_weaker command is
    reading_weaker (Err fault) is = tt

  pub lines_weaker : (manner : Manner) (s : ScriptState) (lines : List (List ℕ))
      → AreLinesLoaded M manner library last s lines → AreLinesLoaded N manner library last s lines
  lines_weaker manner s [] is = is
  lines_weaker manner s (line ∷ lines) is = (
    λ runs. reading_weaker manner.limits s (manner.lines line) (is.0 runs),
    lines_weaker manner (script_step manner s line).state lines is.1,
  )

  opening_weaker : (manner : Manner) (script : Option (List ℕ)) (loads : List Load) (o : Opening)
      → AreOpeningLoaded M manner library last script loads o
      → AreOpeningLoaded N manner library last script loads o
  opening_weaker manner script loads (ends output) is = is
  opening_weaker manner script loads (opens notices s) is = IfSome_then script is (λ bytes all.
      lines_weaker manner (with_loads loads s) (script_lines manner.limits.script bytes) all)

pub loaded_weaker : {M N : Type 0} → (M → N) → (limits : Limits) (readings : Readings) (verdict : Verdict)
    (last : Option FlaggedText) (words : List (List ℕ)) (texts : List ℕ → Option (List ℕ))
    (loads : List Load) → AreLoaded M limits readings verdict last words texts loads
    → AreLoaded N limits readings verdict last words texts loads
loaded_weaker weaker limits readings verdict last words texts loads is =
    IfSome_then (opening readings verdict words texts) is (λ o.
    opening_weaker weaker (words_library (command_words words) texts) last
    (words_manner limits readings words) (words_script texts (command_words words)) loads o)
