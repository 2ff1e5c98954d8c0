-- Lines of a script of whose texts nothing is told.
use Rattle.std.proofs.Common.{◌≡◌, ℕ, Bool, true, false, List, [], ◌∷◌, Option, None, Some, Result, Ok, Err}
use Rattle.std.proofs.Common.{refl, sym, ap, subst}
use Rattle.std.specs.Prelude.{if◌then◌else◌}
use Rattle.shx_outside.specs.Outside.{FlaggedText}
use Rattle.shx_term.specs.declared.edit.Edit.{Edit}
use Rattle.shx_term.specs.declared.limits.Limits.{Limits}
use Rattle.script_lines.specs.declared.command.Command.{Command}
use Rattle.script_lines.specs.declared.command.Command.TheVariants.{Edit as edits, Report, Count, Begin}
use Rattle.script_lines.specs.declared.command.Command.TheVariants.{Commit, Abandon, Undo, Redo, Slice}
use Rattle.script_lines.specs.declared.command.Command.TheVariants.{Nothing, Shapes}
use Rattle.script_lines.specs.declared.fault.LineFault.{LineFault}
use Rattle.script_lines.specs.declared.fault.LineFault.TheVariants.{Line, Memory}
use Rattle.script_run.specs.Load.{Load}
use Rattle.script_run.specs.Loaded.{AreLinesLoaded, IsNextOutside, IsReadingLoaded, Library, LoadsNothing}
use Rattle.script_run.specs.Manner.{Manner}
use Rattle.script_run.specs.Script.{Step, is_silent, reading_step, script_step, shapes_step}
use Rattle.script_run.specs.ScriptState.{ScriptState, with_loads}
use Rattle.script_run.proofs.LoadsLemmas.{reading_beside}

-- ---- a line leaves that so

module _ (limits : Limits) (s : ScriptState) where
  shapes_untold : (group : Option (List Edit)) → (shapes_step limits (with_loads [] s) group).state.loads ≡ []
  shapes_untold None = refl
  shapes_untold (Some waiting) = refl

  alone_untold : (command : Command) → LoadsNothing command
      → (reading_step limits (with_loads [] s) (Ok command)).state.loads ≡ []
  alone_untold command alone =
      ap (λ (step : Step). step.state.loads) (reading_beside limits s [] (Ok command) alone)

  reading_untold : (reading : Result Command LineFault)
      → (reading_step limits (with_loads [] s) reading).state.loads ≡ []
  reading_untold (Ok (edits edit)) = alone_untold (edits edit) tt
  reading_untold (Ok Begin) = alone_untold Begin tt
  reading_untold (Ok Commit) = alone_untold Commit tt
  reading_untold (Ok Abandon) = alone_untold Abandon tt
  reading_untold (Ok Undo) = alone_untold Undo tt
  reading_untold (Ok Redo) = alone_untold Redo tt
  reading_untold (Ok Report) = alone_untold Report tt
  reading_untold (Ok Count) = alone_untold Count tt
  reading_untold (Ok (Slice shape node)) = alone_untold (Slice shape node) tt
  reading_untold (Ok (Shapes name)) = shapes_untold s.group
  reading_untold (Ok Nothing) = alone_untold Nothing tt
  reading_untold (Err (Line code at)) = refl
  reading_untold (Err Memory) = refl

-- a state without loads is the same as one whose loads are left out
without_loads : (s : ScriptState) → s.loads ≡ [] → with_loads [] s ≡ s
without_loads s untold = ap (λ (loads : List Load). with_loads loads s) (sym untold)

step_untold : (manner : Manner) (s : ScriptState) (line : List ℕ) → s.loads ≡ []
    → (script_step manner s line).state.loads ≡ []
step_untold manner s line untold =
    elim s.halted as (λ (b : Bool).
    (if b then is_silent s else reading_step manner.limits s (manner.lines line)).state.loads ≡ []) [
      | true ↦ untold
      | false ↦ subst (λ (t : ScriptState).
          (reading_step manner.limits t (manner.lines line)).state.loads ≡ []) (without_loads s untold)
          (reading_untold manner.limits s (manner.lines line))
    ]

-- ---- that may be so where it may be missing

module _ (Missing : Type 0) (missing : Missing) (limits : Limits) (library : Library)
    (last : Option FlaggedText) (s : ScriptState) where
  next_missing : (name : List ℕ) (group : Option (List Edit))
      → IsNextOutside Missing limits library last (with_loads [] s) name group
  next_missing name None = missing
  next_missing name (Some waiting) = tt

  reading_missing : (reading : Result Command LineFault)
      → IsReadingLoaded Missing limits library last (with_loads [] s) reading
  reading_missing (Ok (edits edit)) = tt
  reading_missing (Ok Begin) = tt
  reading_missing (Ok Commit) = tt
  reading_missing (Ok Abandon) = tt
  reading_missing (Ok Undo) = tt
  reading_missing (Ok Redo) = tt
  reading_missing (Ok Report) = tt
  reading_missing (Ok Count) = tt
  reading_missing (Ok (Slice shape node)) = tt
  reading_missing (Ok (Shapes name)) = next_missing name s.group
  reading_missing (Ok Nothing) = tt
  reading_missing (Err fault) = tt

pub lines_missing : (Missing : Type 0) → Missing → (manner : Manner) (library : Library)
    (last : Option FlaggedText) (s : ScriptState) → s.loads ≡ [] → (lines : List (List ℕ))
    → AreLinesLoaded Missing manner library last s lines
lines_missing Missing missing manner library last s untold [] = untold
lines_missing Missing missing manner library last s untold (line ∷ lines) = (
  λ running. subst (λ (t : ScriptState).
      IsReadingLoaded Missing manner.limits library last t (manner.lines line)) (without_loads s untold)
      (reading_missing Missing missing manner.limits library last s (manner.lines line)),
  lines_missing Missing missing manner library last (script_step manner s line).state
      (step_untold manner s line untold) lines,
)
