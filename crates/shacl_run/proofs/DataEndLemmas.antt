-- No line changes what the names of later lines mean.
use Rattle.std.proofs.Common.{◌≡◌, ℕ, Bool, true, false, nat_lt, List, [], ◌∷◌, ◌++◌, length, Option}
use Rattle.std.proofs.Common.{None, Some, Result, Ok, Err, refl}
use Rattle.std.specs.Prelude.{if◌then◌else◌, nat_le}
use Rattle.shx_term.specs.declared.edit.Edit.{Edit}
use Rattle.shx_term.specs.declared.fault_codes.TheConstants.{GRAPH_TERMS, GROUP_TOO_LONG}
use Rattle.shx_term.specs.declared.limits.Limits.{Limits}
use Rattle.graph_view.specs.Graph.{Graph}
use Rattle.comp_core.specs.declared.pair.Pair.{Pair}
use Rattle.edit_history.specs.declared.net.Net.{Net}
use Rattle.edit_history.specs.History.{redo_change, undo_change}
use Rattle.edit_engine.specs.Edits.{net_of}
use Rattle.edit_engine.specs.NamedPairs.{pair_in}
use Rattle.edit_engine.specs.Nets.{Outcome, NoEffect, PastTriples, PastTerms, Effect, outcome}
use Rattle.report_write.specs.declared.answer.Answer.TheVariants.{Queued}
use Rattle.script_lines.specs.declared.command.Command.{Command}
use Rattle.script_lines.specs.declared.command.Command.TheVariants.{Edit as edits, Report, Count, Begin}
use Rattle.script_lines.specs.declared.command.Command.TheVariants.{Commit, Abandon, Undo, Redo, Slice}
use Rattle.script_lines.specs.declared.command.Command.TheVariants.{Nothing, Shapes}
use Rattle.script_lines.specs.declared.fault.LineFault.{LineFault}
use Rattle.script_lines.specs.declared.fault.LineFault.TheVariants as fault
use Rattle.shape_text.specs.TextReadings.{TextReading, States, Faulty, Long}
use Rattle.shape_text.specs.Verdict.{Obstacle, breaks, is_refused, misspells, reaches_far, recurs}
use Rattle.script_run.specs.Load.{Judgement, Load, refuses, takes, unjudged}
use Rattle.script_run.specs.Manner.{Manner}
use Rattle.script_run.specs.Script.{Step, abandon_step, begin_step, beside_text, change_step, commit_step}
use Rattle.script_run.specs.Script.{edit_step, edits_step, is_silent, judged_step, load_step, make_again}
use Rattle.script_run.specs.Script.{obstacle_step, past_of, reading_step, redo_step, refusal, script_step}
use Rattle.script_run.specs.Script.{shapes_step, slice_step, stays, take_back, text_step, undo_step}
use Rattle.script_run.specs.Script.Said.{answers}
use Rattle.script_run.specs.ScriptState.{ScriptState, with_loads}

-- the state that a step leads to goes on from the same data text
abbrev EndsAlike : ScriptState → Step → Type 0
EndsAlike s step = step.state.data_end ≡ s.data_end

change_end : (limits : Limits) (s : ScriptState) (net : Net) (comes : Outcome)
    → EndsAlike s (change_step limits s net comes)
change_end limits s net NoEffect = refl
change_end limits s net PastTriples = refl
change_end limits s net PastTerms = refl
change_end limits s net Effect = refl

edits_end : (limits : Limits) (s : ScriptState) (wanted : List Edit)
    → EndsAlike s (edits_step limits s wanted)
edits_end limits s wanted =
    let net = net_of s.graph wanted in
    change_end limits s net (outcome limits.triples limits.terms s.graph net)

either_end : (s : ScriptState) (b : Bool) (one other : Step) → EndsAlike s one → EndsAlike s other
    → EndsAlike s (if b then one else other)
either_end s true one other first second = first
either_end s false one other first second = second

edit_end : (limits : Limits) (s : ScriptState) (edit : Edit) (group : Option (List Edit))
    → EndsAlike s (edit_step limits s edit group)
edit_end limits s edit None = edits_end limits s (edit ∷ [])
edit_end limits s edit (Some waiting) =
    either_end s (nat_le limits.group (length waiting)) (refusal s GROUP_TOO_LONG None)
    (stays (record s { group = Some (waiting ++ edit ∷ []) }) (answers Queued ∷ [])) refl refl

begin_end : (s : ScriptState) (group : Option (List Edit)) → EndsAlike s (begin_step s group)
begin_end s None = refl
begin_end s (Some waiting) = refl

commit_end : (limits : Limits) (s : ScriptState) (group : Option (List Edit))
    → EndsAlike s (commit_step limits s group)
commit_end limits s None = refl
commit_end limits s (Some waiting) = edits_end limits s waiting

abandon_end : (s : ScriptState) (group : Option (List Edit)) → EndsAlike s (abandon_step s group)
abandon_end s None = refl
abandon_end s (Some waiting) = refl

back_end : (s : ScriptState) (net : Option Net) → EndsAlike s (take_back s net)
back_end s None = refl
back_end s (Some net) = refl

again_end : (s : ScriptState) (net : Option Net) → EndsAlike s (make_again s net)
again_end s None = refl
again_end s (Some net) = refl

undo_end : (limits : Limits) (s : ScriptState) (group : Option (List Edit))
    → EndsAlike s (undo_step limits s group)
undo_end limits s None = back_end s (undo_change (past_of limits s))
undo_end limits s (Some waiting) = refl

redo_end : (limits : Limits) (s : ScriptState) (group : Option (List Edit))
    → EndsAlike s (redo_step limits s group)
redo_end limits s None = again_end s (redo_change (past_of limits s))
redo_end limits s (Some waiting) = refl

slice_end : (s : ScriptState) (found : Option Pair) → EndsAlike s (slice_step s found)
slice_end s None = refl
slice_end s (Some p) = refl

obstacle_end : (s : ScriptState) (g : Graph) (obstacle : Obstacle) → EndsAlike s (obstacle_step s g obstacle)
obstacle_end s g (breaks broken) = refl
obstacle_end s g (recurs shape) = refl
obstacle_end s g (reaches_far shape) = refl
obstacle_end s g (misspells shape) = refl
obstacle_end s g (is_refused shape) = refl

judged_end : (s : ScriptState) (g : Graph) (judgement : Judgement) → EndsAlike s (judged_step s g judgement)
judged_end s g (takes plan alikes) = refl
judged_end s g (refuses obstacle) = obstacle_end s g obstacle
judged_end s g unjudged = refl

text_end : (limits : Limits) (s : ScriptState) (reading : TextReading) (judgement : Judgement)
    → EndsAlike s (text_step limits s reading judgement)
text_end limits s Long judgement = refl
text_end limits s (Faulty code at) judgement = refl
text_end limits s (States document end) judgement =
    let g = beside_text s end in
    either_end s (nat_lt limits.terms (length g.terms)) (refusal s GRAPH_TERMS None)
    (judged_step s g judgement) refl (judged_end s g judgement)

load_end : (limits : Limits) (s : ScriptState) (loads : List Load) → EndsAlike s (load_step limits s loads)
load_end limits s [] = refl
load_end limits s (load ∷ rest) = text_end limits (with_loads rest s) load.reading load.judgement

shapes_end : (limits : Limits) (s : ScriptState) (group : Option (List Edit))
    → EndsAlike s (shapes_step limits s group)
shapes_end limits s None = load_end limits s s.loads
shapes_end limits s (Some waiting) = refl

reading_end : (limits : Limits) (s : ScriptState) (reading : Result Command LineFault)
    → EndsAlike s (reading_step limits s reading)
reading_end limits s (Ok (edits edit)) = edit_end limits s edit s.group
reading_end limits s (Ok Begin) = begin_end s s.group
reading_end limits s (Ok Commit) = commit_end limits s s.group
reading_end limits s (Ok Abandon) = abandon_end s s.group
reading_end limits s (Ok Undo) = undo_end limits s s.group
reading_end limits s (Ok Redo) = redo_end limits s s.group
reading_end limits s (Ok Report) = refl
reading_end limits s (Ok Count) = refl
reading_end limits s (Ok (Slice shape node)) = slice_end s (pair_in s.plan s.graph shape node)
reading_end limits s (Ok (Shapes name)) = shapes_end limits s s.group
reading_end limits s (Ok Nothing) = refl
reading_end limits s (Err (fault.Line code at)) = refl
reading_end limits s (Err fault.Memory) = refl

pub step_end : (manner : Manner) (s : ScriptState) (line : List ℕ) → EndsAlike s (script_step manner s line)
step_end manner s line =
    either_end s s.halted (is_silent s) (reading_step manner.limits s (manner.lines line)) refl
    (reading_end manner.limits s (manner.lines line))
