-- The whole output of a run: a function of the words, of the texts that are told, and of what they are read
-- as.
use Rattle.std.specs.Prelude.{ℕ, ◌==◌, Bool, true, false, nat_lt, List, [], ◌∷◌, ◌++◌, length}
use Rattle.std.specs.Prelude.{Option, Some, None, if◌then◌else◌}
use Rattle.std.specs.Option.{option_map, option_and_then}
use Rattle.shx_outside.specs.declared.role.Role.TheVariants.{Shapes, Data, Script}
use Rattle.shx_term.specs.declared.edit.Edit.{Edit}
use Rattle.shx_term.specs.declared.limits.Limits.{Limits}
use Rattle.graph_view.specs.Graph.{Graph}
use Rattle.comp_core.specs.declared.row.ResultRow.{ResultRow}
use Rattle.shape_eval.specs.Plan.{Planned}
use Rattle.shape_eval.specs.Report.{report}
use Rattle.shx_term.specs.declared.term.Term.{Term}
use Rattle.text_input.specs.Lines.{script_lines, fed_lines}
use Rattle.text_output.specs.declared.format.Format.{Format}
use Rattle.text_output.specs.declared.format.Format.TheVariants.{Lines}
use Rattle.report_write.specs.declared.answer.Answer.{Answer}
use Rattle.report_write.specs.declared.answer.Answer.TheVariants.{TextFault, TooLong, Notice}
use Rattle.report_write.specs.declared.answer.Answer.TheVariants.{GroupDropped, Usage}
use Rattle.report_write.specs.Answers.{answer_text}
use Rattle.shacl_run.specs.declared.status.Status.{Status}
use Rattle.shacl_run.specs.declared.status.Status.TheVariants.{Conforms, Violates, BadWords, Refused}
use Rattle.shacl_run.specs.declared.status.Status.TheVariants.{LinesRefused}
use Rattle.command_words.specs.Asked.{Asked}
use Rattle.command_words.specs.Words.{command_words}
use Rattle.script_run.specs.Load.{Load}
use Rattle.script_run.specs.Manner.{Manner}
use Rattle.shacl_run.specs.Readings.{Readings}
use Rattle.shape_text.specs.TextReadings.{TextReading, States, Faulty, Long, stated_graph}
use Rattle.shape_text.specs.Verdict.{Verdict, obstacle_answer, passed_over, plans, stops}
use Rattle.script_run.specs.Script.{first_work, said_text, serve_lines}
use Rattle.script_run.specs.Script.Said.{reports}
use Rattle.script_run.specs.ScriptState.{ScriptState, start_state, with_loads}
use Rattle.script_run.specs.Work.{Work, and_then, no_work}

-- what is written, how the run ends, and the work that it takes
pub record Output : Type 0 where
  pub text : List ℕ
  pub status : Status
  pub work : Work

-- an output that is one answer, whose terms are these
abbrev pub answer_output : Format → List Term → Answer → Status → Output
answer_output format terms answer status = record {
  text = answer_text format terms answer;
  status = status;
  work = no_work;
}

-- a text is refused, with this answer
abbrev pub refused : Format → List Term → Answer → Output
refused format terms answer = answer_output format terms answer Refused

-- a text and work, and then an output
abbrev pub behind : List ℕ → Work → Output → Output
behind front work output = record {
  text = front ++ output.text;
  status = output.status;
  work = and_then work output.work;
}

abbrev pub status_of_rows : List ResultRow → Status
status_of_rows [] = Conforms
status_of_rows (row ∷ rows) = Violates

-- how a run ends where its script was read to its end
abbrev pub status_of_state : ScriptState → Status
status_of_state s = if s.refused then LinesRefused else status_of_rows (report s.plan s.graph)

-- the notice that a group was open at the end
abbrev pub dropped_text : Format → ScriptState → Option (List Edit) → List ℕ
dropped_text format s None = []
dropped_text format s (Some waiting) = answer_text format s.graph.terms GroupDropped

-- how a run ends after the lines of its script: where it is longer than its limit, and where it is not
abbrev pub end_of_script : Format → Bool → ScriptState → Output
end_of_script format true s = refused format s.graph.terms (TooLong Script)
end_of_script format false s = record {
  text = dropped_text format s s.group;
  status = status_of_state s;
  work = no_work;
}

-- with a line that ended the script
abbrev pub end_of_line : Output
end_of_line = record { text = []; status = Refused; work = no_work }

abbrev pub ending : Format → Bool → ScriptState → Output
ending format past s = if s.halted then end_of_line else end_of_script format past s

-- what is due from a state on, of a script of which so many bytes more are allowed, and these are left
abbrev pub output_from : Manner → ScriptState → ℕ → List ℕ → Output
output_from manner s budget left =
    let served = serve_lines manner s (script_lines budget left) in
    behind served.text served.work (ending manner.format (nat_lt budget (length left)) served.state)

-- the notice that so many triples were passed over: nothing where there are none
abbrev pub notice_text : Format → ℕ → List ℕ
notice_text format count = if count == 0 then [] else answer_text format [] (Notice count)

-- a notice, and the report of a state
abbrev pub first_text : Format → ℕ → ScriptState → List ℕ
first_text format notices s = notice_text format notices ++ said_text format s reports

-- the same, and then the answers to a script
abbrev pub validation_output : Manner → ℕ → ScriptState → List ℕ → Output
validation_output manner notices s script =
    behind (first_text manner.format notices s) (first_work s)
    (output_from manner s manner.limits.script script)

-- what is written up to and with the answers to those lines whose line feed stands in these bytes of the
-- script
abbrev pub fed_text : Manner → ScriptState → List ℕ → List ℕ
fed_text manner s taken = (serve_lines manner s (fed_lines taken)).text

-- what the words and the two texts come to: an output; or a state that is reported, behind the notice that so
-- many triples of the shapes text were passed over, and that then answers the script
pub data Opening : Type 0 where
  ends : Output → Opening
  opens : ℕ → ScriptState → Opening

-- a state is reported
abbrev pub IsOpening : Opening → Type 0
IsOpening (ends output) = ⊥
IsOpening (opens notices s) = Unit {0}

-- the data text states a document, has a fault, or is too long; the terms play no part in these answers
abbrev pub with_data : Format → ℕ → Planned → TextReading → Opening
with_data format notices plan (States document end) =
    opens notices (start_state (stated_graph document) end plan)
with_data format notices plan (Faulty code at) = ends (refused format [] (TextFault Data code at))
with_data format notices plan Long = ends (refused format [] (TooLong Data))

-- the shapes have a plan, or another verdict; the data text is told or not
abbrev pub with_verdict : Format → Readings → Graph → Verdict → Option (List ℕ) → Option Opening
with_verdict format readings g (plans plan) data_text =
    option_map (λ text. with_data format (passed_over g) plan readings.data_text) data_text
with_verdict format readings g (stops obstacle) data_text =
    Some (ends (refused format g.terms (obstacle_answer obstacle)))

-- the shapes text states a document, has a fault, or is too long
abbrev pub with_shapes : Format → Readings → Verdict → TextReading → Option (List ℕ) → Option Opening
with_shapes format readings verdict (States document end) data_text =
    with_verdict format readings (stated_graph document) verdict data_text
with_shapes format readings verdict (Faulty code at) data_text =
    Some (ends (refused format [] (TextFault Shapes code at)))
with_shapes format readings verdict Long data_text = Some (ends (refused format [] (TooLong Shapes)))

-- what the two texts come to, where they are told
abbrev pub texts_opening : Format → Readings → Verdict → Option (List ℕ) → Option (List ℕ) → Option Opening
texts_opening format readings verdict shapes data_text =
    option_and_then (λ text. with_shapes format readings verdict readings.shapes data_text) shapes

-- the words name files or not; the usage is the same in every format
abbrev pub files_opening : Readings → Verdict → Option Asked → (List ℕ → Option (List ℕ)) → Option Opening
files_opening readings verdict None texts = Some (ends (answer_output Lines [] Usage BadWords))
files_opening readings verdict (Some words) texts =
    texts_opening words.format readings verdict (texts words.files.shapes_file)
    (texts words.files.data_file)

abbrev pub opening : Readings → Verdict → List (List ℕ) → (List ℕ → Option (List ℕ)) → Option Opening
opening readings verdict words texts = files_opening readings verdict (command_words words) texts

-- a script that the words do not name is empty
abbrev pub script_text : (List ℕ → Option (List ℕ)) → Option (List ℕ) → Option (List ℕ)
script_text texts None = Some []
script_text texts (Some name) = texts name

abbrev pub words_script : (List ℕ → Option (List ℕ)) → Option Asked → Option (List ℕ)
words_script texts None = Some []
words_script texts (Some words) = script_text texts words.files.script_file

-- ---- how answers are given

abbrev pub manner_of : Limits → Readings → Format → Manner
manner_of limits readings format = record {
  limits = limits;
  format = format;
  lines = readings.lines;
}

abbrev pub words_format : Option Asked → Format
words_format None = Lines
words_format (Some words) = words.format

abbrev pub words_manner : Limits → Readings → List (List ℕ) → Manner
words_manner limits readings words = manner_of limits readings (words_format (command_words words))

-- ---- the whole

-- the output of what the texts came to, where the script is told that it depends on, and this comes of the
-- texts that its lines load
abbrev pub opening_output : Manner → List Load → Option (List ℕ) → Opening → Option Output
opening_output manner loads script (ends output) = Some output
opening_output manner loads script (opens notices s) =
    option_map (validation_output manner notices (with_loads loads s)) script

-- the output, where the texts are told that it depends on
abbrev pub run_output : Limits → Readings → Verdict → List Load → List (List ℕ)
    → (List ℕ → Option (List ℕ)) → Option Output
run_output limits readings verdict loads words texts =
    option_and_then
    (opening_output (words_manner limits readings words) loads (words_script texts (command_words words)))
    (opening readings verdict words texts)

-- what is written of it up to and with the answers to the lines whose line feed stands in these bytes of
-- the script
abbrev pub opening_fed : Manner → List Load → Opening → List ℕ → List ℕ
opening_fed manner loads (ends output) taken = []
opening_fed manner loads (opens notices s) taken =
    first_text manner.format notices s ++ fed_text manner (with_loads loads s) taken
