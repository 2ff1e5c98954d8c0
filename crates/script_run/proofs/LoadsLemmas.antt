-- What comes of the texts that later lines load makes no difference to a line that loads none.
use Rattle.std.specs.Prelude.{◌≡◌, Bool, true, false, IfOk, List, [], ◌∷◌, ◌++◌, None, Option, Some, Result}
use Rattle.std.specs.Prelude.{Ok, Err, if◌then◌else◌, length, nat_le, nat_lt}
use Rattle.std.proofs.Common.{refl}
use Rattle.shx_outside.specs.Outside.{FlaggedText}
use Rattle.shx_term.specs.declared.edit.Edit.{Edit}
use Rattle.shx_term.specs.declared.fault_codes.TheConstants.{GRAPH_TERMS, GROUP_TOO_LONG}
use Rattle.shx_term.specs.declared.limits.Limits.{Limits}
use Rattle.graph_view.specs.Graph.{Graph}
use Rattle.comp_core.specs.declared.pair.Pair.{Pair}
use Rattle.edit_history.specs.declared.net.Net.{Net}
use Rattle.edit_history.specs.History.{redo_change, undo_change}
use Rattle.edit_engine.specs.Edits.{net_of}
use Rattle.edit_engine.specs.NamedPairs.{pair_in}
use Rattle.edit_engine.specs.Nets.{Effect, NoEffect, Outcome, PastTerms, PastTriples, outcome}
use Rattle.report_write.specs.declared.answer.Answer.TheVariants.{Queued}
use Rattle.script_lines.specs.declared.command.Command.{Command}
use Rattle.script_lines.specs.declared.command.Command.TheVariants.{Edit as edits, Report, Count, Begin}
use Rattle.script_lines.specs.declared.command.Command.TheVariants.{Commit, Abandon, Undo, Redo, Slice}
use Rattle.script_lines.specs.declared.command.Command.TheVariants.{Nothing, Shapes}
use Rattle.script_lines.specs.declared.fault.LineFault.{LineFault}
use Rattle.script_lines.specs.declared.fault.LineFault.TheVariants.{Line, Memory}
use Rattle.shape_text.specs.TextReadings.{TextReading, States, Faulty, Long}
use Rattle.shape_text.specs.Verdict.Obstacle.{breaks, recurs, reaches_far, misspells, is_refused}
use Rattle.script_run.specs.Load.{Judgement, Load, refuses, takes, unjudged}
use Rattle.script_run.specs.Loaded.{IsReadingLoaded, Library, LoadsNothing}
use Rattle.script_run.specs.Replies.{leaving}
use Rattle.script_run.specs.Script.{abandon_step, answers, begin_step, change_step, command_step}
use Rattle.script_run.specs.Script.{commit_step, edit_step, edits_step, make_again, past_of, reading_step}
use Rattle.script_run.specs.Script.{beside_text, judged_step, redo_step, refusal, slice_step, stays}
use Rattle.script_run.specs.Script.{take_back, text_step, undo_step}
use Rattle.script_run.specs.ScriptState.{ScriptState, with_loads}

-- ---- the step is the same

module _ (limits : Limits) (s : ScriptState) (rest : List Load) where
  -- the same state, beside which this comes of texts
  abbrev beside : ScriptState
  beside = with_loads rest s

  change_beside : (net : Net) (o : Outcome)
      → change_step limits beside net o ≡ leaving rest (change_step limits s net o)
  change_beside net NoEffect = refl
  change_beside net PastTriples = refl
  change_beside net PastTerms = refl
  change_beside net Effect = refl

  edits_beside : (all : List Edit) → edits_step limits beside all ≡ leaving rest (edits_step limits s all)
  edits_beside all =
      let net = net_of s.graph all in
      change_beside net (outcome limits.triples limits.terms s.graph net)

  edit_beside : (edit : Edit) (group : Option (List Edit))
      → edit_step limits beside edit group ≡ leaving rest (edit_step limits s edit group)
  edit_beside edit None = edits_beside (edit ∷ [])
  edit_beside edit (Some waiting) =
      let by = λ (t : ScriptState) (full : Bool). if full then refusal t GROUP_TOO_LONG None
      else stays (record t { group = Some (waiting ++ edit ∷ []) }) (answers Queued ∷ []) in
      elim (nat_le limits.group (length waiting)) as (λ full. by beside full ≡ leaving rest (by s full)) [
        | true ↦ refl
        | false ↦ refl
      ]

  begin_beside : (group : Option (List Edit)) → begin_step beside group ≡ leaving rest (begin_step s group)
  begin_beside None = refl
  begin_beside (Some waiting) = refl

  commit_beside : (group : Option (List Edit))
      → commit_step limits beside group ≡ leaving rest (commit_step limits s group)
  commit_beside None = refl
  commit_beside (Some waiting) = edits_beside waiting

  abandon_beside : (group : Option (List Edit))
      → abandon_step beside group ≡ leaving rest (abandon_step s group)
  abandon_beside None = refl
  abandon_beside (Some waiting) = refl

  back_beside : (found : Option Net) → take_back beside found ≡ leaving rest (take_back s found)
  back_beside None = refl
  back_beside (Some net) = refl

  again_beside : (found : Option Net) → make_again beside found ≡ leaving rest (make_again s found)
  again_beside None = refl
  again_beside (Some net) = refl

  undo_beside : (group : Option (List Edit))
      → undo_step limits beside group ≡ leaving rest (undo_step limits s group)
  undo_beside None = back_beside (undo_change (past_of limits s))
  undo_beside (Some waiting) = refl

  redo_beside : (group : Option (List Edit))
      → redo_step limits beside group ≡ leaving rest (redo_step limits s group)
  redo_beside None = again_beside (redo_change (past_of limits s))
  redo_beside (Some waiting) = refl

  slice_beside : (found : Option Pair) → slice_step beside found ≡ leaving rest (slice_step s found)
  slice_beside None = refl
  slice_beside (Some p) = refl

  command_beside : (command : Command) → LoadsNothing command
      → command_step limits beside command ≡ leaving rest (command_step limits s command)
  command_beside (edits edit) alone = edit_beside edit s.group
  command_beside Begin alone = begin_beside s.group
  command_beside Commit alone = commit_beside s.group
  command_beside Abandon alone = abandon_beside s.group
  command_beside Undo alone = undo_beside s.group
  command_beside Redo alone = redo_beside s.group
  command_beside Report alone = refl
  command_beside Count alone = refl
  command_beside (Slice shape node) alone = slice_beside (pair_in s.plan s.graph shape node)
  command_beside (Shapes name) alone = absurd alone
  command_beside Nothing alone = refl

  pub reading_beside : (reading : Result Command LineFault) → IfOk reading LoadsNothing
      → reading_step limits beside reading ≡ leaving rest (reading_step limits s reading)
  reading_beside (Ok command) alone = command_beside command alone
  reading_beside (Err (Line code at)) alone = refl
  reading_beside (Err Memory) alone = refl

-- ---- texts that are loaded leave what comes of later ones

leaving_judged : (rest : List Load) (s : ScriptState) (g : Graph) (judgement : Judgement)
    → judged_step (with_loads rest s) g judgement ≡ leaving rest (judged_step s g judgement)
leaving_judged rest s g (takes plan alikes) = refl
leaving_judged rest s g (refuses (breaks fault)) = refl
leaving_judged rest s g (refuses (recurs shape)) = refl
leaving_judged rest s g (refuses (reaches_far shape)) = refl
leaving_judged rest s g (refuses (misspells shape)) = refl
leaving_judged rest s g (refuses (is_refused shape)) = refl
leaving_judged rest s g unjudged = refl

pub leaving_text : (limits : Limits) (rest : List Load) (s : ScriptState) (reading : TextReading)
    (judgement : Judgement)
    → text_step limits (with_loads rest s) reading judgement
    ≡ leaving rest (text_step limits s reading judgement)
leaving_text limits rest s Long judgement = refl
leaving_text limits rest s (Faulty code at) judgement = refl
leaving_text limits rest s (States document end) judgement =
    let g = beside_text s end in
    elim (nat_lt limits.terms (length g.terms)) as
    (λ b. (if b then refusal (with_loads rest s) GRAPH_TERMS None
    else judged_step (with_loads rest s) g judgement)
    ≡ leaving rest (if b then refusal s GRAPH_TERMS None else judged_step s g judgement)) [
      | true ↦ refl
      | false ↦ leaving_judged rest s g judgement
    ]

-- ---- nothing is asked of what is told

module _ (Missing : Type 0) (limits : Limits) (library : Library) (last : Option FlaggedText)
    (s : ScriptState) where
  command_loads : (command : Command) → LoadsNothing command
      → IsReadingLoaded Missing limits library last s (Ok command)
  command_loads (edits edit) alone = tt
  command_loads Begin alone = tt
  command_loads Commit alone = tt
  command_loads Abandon alone = tt
  command_loads Undo alone = tt
  command_loads Redo alone = tt
  command_loads Report alone = tt
  command_loads Count alone = tt
  command_loads (Slice shape node) alone = tt
  command_loads (Shapes name) alone = absurd alone
  command_loads Nothing alone = tt

  pub reading_loads : (reading : Result Command LineFault) → IfOk reading LoadsNothing
      → IsReadingLoaded Missing limits library last s reading
  reading_loads (Ok command) alone = command_loads command alone
  reading_loads (Err fault) alone = tt
