-- Scripts: what each line does to the graph or the shapes, what is said to it, and what work it takes.
use Rattle.std.specs.Prelude.{ℕ, ◌+◌, ◌-◌, true, List, [], ◌∷◌, ◌++◌, flat_map, length, map, nat_le, nat_lt}
use Rattle.std.specs.Prelude.{Option, None, Some, Result, Ok, Err, if◌then◌else◌}
use Rattle.shx_term.specs.declared.edit.Edit.{Edit}
use Rattle.shx_term.specs.declared.fault_codes.TheConstants.{GRAPH_TRIPLES, GRAPH_TERMS, GROUP_OPEN, NO_GROUP}
use Rattle.shx_term.specs.declared.fault_codes.TheConstants.{GROUP_TOO_LONG, NOTHING_TO_UNDO}
use Rattle.shx_term.specs.declared.fault_codes.TheConstants.{NOTHING_TO_REDO, NO_PAIR}
use Rattle.shx_term.specs.declared.fault_codes.TheConstants.{PATTERN_REFUSED, TEXT_TOO_LONG}
use Rattle.shx_term.specs.declared.limits.Limits.{Limits}
use Rattle.shx_term.specs.Pool.{with_terms}
use Rattle.shx_term.specs.TripleTerms.{terms_of}
use Rattle.graph_view.specs.Graph.{Graph}
use Rattle.comp_core.specs.declared.pair.Pair.{Pair}
use Rattle.edit_history.specs.declared.net.Net.{Net}
use Rattle.edit_history.specs.History.{Past, history_after, redo_change, undo_change}
use Rattle.shape_eval.specs.Plan.{Planned}
use Rattle.shape_eval.specs.Report.{pairs, report}
use Rattle.shape_eval.specs.Results.{pair_reads}
use Rattle.edit_engine.specs.Edits.{net_of}
use Rattle.edit_engine.specs.NamedPairs.{pair_in}
use Rattle.edit_engine.specs.Nets.{Outcome, NoEffect, PastTriples, PastTerms, Effect}
use Rattle.edit_engine.specs.Nets.{changed_by, graph_after, outcome, turned}
use Rattle.edit_engine.specs.Remembered.{fresh_count, kept_pairs, nested_count}
use Rattle.edit_engine.specs.Swapped.{fresh_over, kept_over, swapped_pairs}
use Rattle.edit_engine.specs.Touched.{touched_pairs}
use Rattle.pair_slice.specs.Slice.{slice_triples}
use Rattle.text_output.specs.declared.format.Format.{Format}
use Rattle.report_write.specs.declared.answer.Answer.{Answer}
use Rattle.report_write.specs.declared.answer.Answer.TheVariants.{Changed, Count as counted, Unchanged}
use Rattle.report_write.specs.declared.answer.Answer.TheVariants.{RefusedLine, RefusedAt}
use Rattle.report_write.specs.declared.answer.Answer.TheVariants.{Abandoned, Begun, OfShape, Queued}
use Rattle.report_write.specs.declared.answer.Answer.TheVariants.{ShapesTaken}
use Rattle.report_write.specs.Answers.{answer_text, slice_answers}
use Rattle.report_write.specs.ReportTexts.{report_text}
use Rattle.script_lines.specs.declared.command.Command.{Command}
use Rattle.script_lines.specs.declared.command.Command.TheVariants.{Edit as edits, Report, Count, Begin}
use Rattle.script_lines.specs.declared.command.Command.TheVariants.{Commit, Abandon, Undo, Redo, Slice}
use Rattle.script_lines.specs.declared.command.Command.TheVariants.{Nothing, Shapes}
use Rattle.script_lines.specs.declared.fault.LineFault.{LineFault}
use Rattle.script_lines.specs.declared.fault.LineFault.TheVariants.{Line, Memory}
use Rattle.shape_text.specs.TextReadings.{TextReading, States, Faulty, Long, numbered_from, stated_graph}
use Rattle.shape_text.specs.Verdict.{Obstacle, is_refused, obstacle_code}
use Rattle.ttl_meaning.specs.State.{State}
use Rattle.script_run.specs.Load.{Judgement, Load, refuses, takes, unjudged}
use Rattle.script_run.specs.Manner.{Manner}
use Rattle.script_run.specs.ScriptState.{ScriptState, with_loads}
use Rattle.script_run.specs.Work.{Work, and_then, evaluating, no_work}

-- ---- what is said

-- an answer, or the report of the graph
pub data Said : Type 0 where
  answers : Answer → Said
  reports : Said

abbrev pub said_text : Format → ScriptState → Said → List ℕ
said_text format s (answers answer) = answer_text format s.graph.terms answer
said_text format s reports = report_text format s.graph.terms s.plan.shapes (report s.plan s.graph)

-- ---- steps

-- what is said to a line, where the script then stands, and the work that it took
pub record Step : Type 0 where
  pub said : List Said
  pub state : ScriptState
  pub work : Work

abbrev pub step_text : Format → Step → List ℕ
step_text format step = flat_map (said_text format step.state) step.said

-- a line was answered so, and nothing else changes
abbrev pub stays : ScriptState → List Said → Step
stays s said = record {
  said = said;
  state = record s { line = s.line + 1 };
  work = no_work;
}

-- how a line is refused whose fault stands at a byte, or at none
abbrev pub refusal_answer : ℕ → ℕ → Option ℕ → Answer
refusal_answer line code None = RefusedLine line code
refusal_answer line code (Some at) = RefusedAt line code at

-- a line was refused, and the graph stays
abbrev pub refusal : ScriptState → ℕ → Option ℕ → Step
refusal s code at = record {
  said = answers (refusal_answer (s.line + 1) code at) ∷ [];
  state = record s { line = s.line + 1; refused = true };
  work = no_work;
}

-- ---- what lines ask for

-- how many pairs a change touches
abbrev pub touched_count : ScriptState → Net → ℕ
touched_count s net =
    length (touched_pairs s.plan s.graph (graph_after s.graph net) (changed_by s.graph net))

-- for how many nested pairs nothing right is remembered
abbrev pub nested_due : ScriptState → Net → ℕ
nested_due s net = fresh_count s.plan s.graph (graph_after s.graph net) (changed_by s.graph net) s.kept

-- which are remembered from then on
abbrev pub kept_by : ScriptState → Net → List Pair
kept_by s net = kept_pairs s.plan s.graph (graph_after s.graph net) (changed_by s.graph net) s.kept

-- the graph is another one, for which so many pairs were evaluated; and these are the changes from then on,
-- of which so many are made
abbrev pub changed : ScriptState → Net → List Net → ℕ → Step
changed s net changes made = record {
  said = answers (Changed (touched_count s net)) ∷ [];
  state = record s {
    graph = graph_after s.graph net;
    kept = kept_by s net;
    group = None;
    changes = changes;
    made = made;
    line = s.line + 1;
  };
  work = evaluating (touched_count s net) (nested_due s net);
}

-- the changes as a history of so many
abbrev pub past_of : Limits → ScriptState → Past
past_of limits s = record {
  changes = s.changes;
  cursor = s.made;
  depth = limits.history;
  staged = None;
}

-- a change that is new, by what comes of it: it is the last from then on
abbrev pub change_step : Limits → ScriptState → Net → Outcome → Step
change_step limits s net NoEffect = stays (record s { group = None }) (answers Unchanged ∷ [])
change_step limits s net PastTriples = refusal s GRAPH_TRIPLES None
change_step limits s net PastTerms = refusal s GRAPH_TERMS None
change_step limits s net Effect =
    let changes = history_after (past_of limits s) net in changed s net changes (length changes)

-- edits are made in order, as one change
abbrev pub edits_step : Limits → ScriptState → List Edit → Step
edits_step limits s wanted =
    let net = net_of s.graph wanted in
    change_step limits s net (outcome limits.triples limits.terms s.graph net)

-- an edit is made, or waits in the open group
abbrev pub edit_step : Limits → ScriptState → Edit → Option (List Edit) → Step
edit_step limits s edit None = edits_step limits s (edit ∷ [])
edit_step limits s edit (Some waiting) =
    if nat_le limits.group (length waiting) then refusal s GROUP_TOO_LONG None
    else stays (record s { group = Some (waiting ++ edit ∷ []) }) (answers Queued ∷ [])

abbrev pub begin_step : ScriptState → Option (List Edit) → Step
begin_step s None = stays (record s { group = Some [] }) (answers Begun ∷ [])
begin_step s (Some waiting) = refusal s GROUP_OPEN None

abbrev pub commit_step : Limits → ScriptState → Option (List Edit) → Step
commit_step limits s None = refusal s NO_GROUP None
commit_step limits s (Some waiting) = edits_step limits s waiting

abbrev pub abandon_step : ScriptState → Option (List Edit) → Step
abandon_step s None = refusal s NO_GROUP None
abandon_step s (Some waiting) = stays (record s { group = None }) (answers Abandoned ∷ [])

-- the last change that is made is taken back, where there is one
abbrev pub take_back : ScriptState → Option Net → Step
take_back s None = refusal s NOTHING_TO_UNDO None
take_back s (Some net) = changed s (turned true net) s.changes (s.made - 1)

-- the first that was taken back is made again, where there is one
abbrev pub make_again : ScriptState → Option Net → Step
make_again s None = refusal s NOTHING_TO_REDO None
make_again s (Some net) = changed s net s.changes (s.made + 1)

-- neither is done within a group
abbrev pub undo_step : Limits → ScriptState → Option (List Edit) → Step
undo_step limits s None = take_back s (undo_change (past_of limits s))
undo_step limits s (Some waiting) = refusal s GROUP_OPEN None

abbrev pub redo_step : Limits → ScriptState → Option (List Edit) → Step
redo_step limits s None = make_again s (redo_change (past_of limits s))
redo_step limits s (Some waiting) = refusal s GROUP_OPEN None

-- the triples on which the results of a pair rest, where there is such a pair
abbrev pub slice_step : ScriptState → Option Pair → Step
slice_step s None = refusal s NO_PAIR None
slice_step s (Some p) =
    stays s (map answers (slice_answers (slice_triples s.graph (pair_reads s.plan.shapes s.graph p))))

-- ---- other shapes

-- the graph over the terms of a text of shapes too, which stand behind its own
abbrev pub beside_text : ScriptState → State → Graph
beside_text s end = record {
  terms = with_terms s.graph.terms (terms_of end.triples);
  triples = s.graph.triples;
}

-- what the text states, over these terms
abbrev pub stated_beside : ScriptState → State → Graph
stated_beside s end = stated_graph (numbered_from s.graph.terms end.triples)

-- how many pairs are evaluated for a plan over a graph: those that were none of an alike shape
abbrev pub swapped_count : ScriptState → Graph → Planned → List (Option ℕ) → ℕ
swapped_count s g plan alikes = length (swapped_pairs s.plan plan alikes g)

-- the shapes are other ones
abbrev pub takes_shapes : ScriptState → Graph → Planned → List (Option ℕ) → Step
takes_shapes s g plan alikes = record {
  said = answers (ShapesTaken (swapped_count s g plan alikes)) ∷ [];
  state = record s {
    graph = g;
    plan = plan;
    kept = kept_over plan alikes g s.kept;
    line = s.line + 1;
  };
  work = evaluating (swapped_count s g plan alikes) (fresh_over plan alikes g s.kept);
}

-- the pattern of a shape was refused, and with that the script ends
abbrev pub halts : ScriptState → Graph → ℕ → Step
halts s g shape = record {
  said = answers (OfShape PATTERN_REFUSED shape) ∷ [];
  state = record s { graph = g; line = s.line + 1; halted = true };
  work = no_work;
}

abbrev pub obstacle_step : ScriptState → Graph → Obstacle → Step
obstacle_step s g (is_refused shape) = halts s g shape
obstacle_step s g obstacle = refusal s (obstacle_code obstacle) None

-- nothing comes of a text that could not be read, and with its line the script ends
abbrev pub is_cut : ScriptState → Step
is_cut s = record { said = []; state = record s { halted = true }; work = no_work }

-- by what the shapes come to
abbrev pub judged_step : ScriptState → Graph → Judgement → Step
judged_step s g (takes plan alikes) = takes_shapes s g plan alikes
judged_step s g (refuses obstacle) = obstacle_step s g obstacle
judged_step s g unjudged = is_cut s

-- a text that is too long or has a fault is refused, and so is one for whose terms there is no room
abbrev pub text_step : Limits → ScriptState → TextReading → Judgement → Step
text_step limits s Long judgement = refusal s TEXT_TOO_LONG None
text_step limits s (Faulty code at) judgement = refusal s code None
text_step limits s (States document end) judgement =
    if nat_lt limits.terms (length (beside_text s end).terms) then refusal s GRAPH_TERMS None
    else judged_step s (beside_text s end) judgement

-- what comes of the text of this line comes of no later one
abbrev pub load_step : Limits → ScriptState → List Load → Step
load_step limits s [] = is_cut s
load_step limits s (load ∷ rest) = text_step limits (with_loads rest s) load.reading load.judgement

-- nothing is loaded within a group
abbrev pub shapes_step : Limits → ScriptState → Option (List Edit) → Step
shapes_step limits s None = load_step limits s s.loads
shapes_step limits s (Some waiting) = refusal s GROUP_OPEN None

-- ---- lines

-- how many triples, pairs and results there are
abbrev pub count_answer : ScriptState → Answer
count_answer s =
    counted (length s.graph.triples) (length (pairs s.plan s.graph)) (length (report s.plan s.graph))

abbrev pub command_step : Limits → ScriptState → Command → Step
command_step limits s (edits edit) = edit_step limits s edit s.group
command_step limits s Begin = begin_step s s.group
command_step limits s Commit = commit_step limits s s.group
command_step limits s Abandon = abandon_step s s.group
command_step limits s Undo = undo_step limits s s.group
command_step limits s Redo = redo_step limits s s.group
command_step limits s Report = stays s (reports ∷ [])
command_step limits s Count = stays s (answers (count_answer s) ∷ [])
command_step limits s (Slice shape node) = slice_step s (pair_in s.plan s.graph shape node)
command_step limits s (Shapes name) = shapes_step limits s s.group
command_step limits s Nothing = stays s []

-- nothing is done, and nothing said
abbrev pub is_silent : ScriptState → Step
is_silent s = record { said = []; state = s; work = no_work }

-- a line that is no command is refused; that memory was wanted is no reading
abbrev pub reading_step : Limits → ScriptState → Result Command LineFault → Step
reading_step limits s (Ok command) = command_step limits s command
reading_step limits s (Err (Line code at)) = refusal s code at
reading_step limits s (Err Memory) = is_silent s

-- a script that has ended passes over its lines
abbrev pub script_step : Manner → ScriptState → List ℕ → Step
script_step manner s line =
    if s.halted then is_silent s else reading_step manner.limits s (manner.lines line)

-- ---- work

-- before the first line each pair is evaluated, and each nested one
abbrev pub first_work : ScriptState → Work
first_work s = evaluating (length (pairs s.plan s.graph)) (nested_count s.plan s.graph)

-- ---- lines, one after the other

-- what was said to some lines, where the script then stands, and the work that they took
pub record Served : Type 0 where
  pub text : List ℕ
  pub state : ScriptState
  pub work : Work

abbrev pub serve_lines : Manner → ScriptState → List (List ℕ) → Served
serve_lines manner s [] = record { text = []; state = s; work = no_work }
serve_lines manner s (line ∷ lines) =
    let step = script_step manner s line in
    let later = serve_lines manner step.state lines in
    record {
      text = step_text manner.format step ++ later.text;
      state = later.state;
      work = and_then step.work later.work;
    }
