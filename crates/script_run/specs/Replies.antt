-- Replies to lines, as they are written.
use Rattle.std.specs.Prelude.{◌≡◌, ℕ, ◌+◌, Bool, true, List, [], ◌++◌, Option, OnOk, Result, Ok}
use Rattle.std.specs.List.{list_any}
use Rattle.std.specs.declared.alloc.AllocError.{AllocError}
use Rattle.shx_outside.specs.Outside.{FlaggedText}
use Rattle.graph_view.specs.Graph.{Graph}
use Rattle.shape_eval.specs.Plan.{Planned}
use Rattle.shape_eval.specs.Report.{report}
use Rattle.report_write.specs.Answers.{answer_text, slice_text}
use Rattle.report_write.specs.ReportTexts.{report_text}
use Rattle.script_run.specs.declared.reply.Reply.{Reply}
use Rattle.script_run.specs.declared.reply.Reply.TheVariants.{Answers, Report, Slice, Nothing}
use Rattle.script_run.specs.declared.script_run.ScriptRun.{ScriptRun}
use Rattle.shx_term.specs.declared.limits.Limits.{Limits}
use Rattle.script_lines.specs.declared.command.Command.{Command}
use Rattle.script_lines.specs.declared.fault.LineFault.{LineFault}
use Rattle.script_run.specs.Load.{Load, is_pattern_refused}
use Rattle.script_run.specs.Loaded.{IsReadingLoaded, Library}
use Rattle.script_run.specs.Manner.{Manner}
use Rattle.text_output.specs.declared.format.Format.{Format}
use Rattle.script_run.specs.Script.{Step, command_step, is_cut, reading_step, step_text}
use Rattle.script_run.specs.ScriptState.{ScriptState, with_loads}
use Rattle.script_run.specs.Work.{NoneFell, Work, and_then}
use Rattle.script_run.specs.Stored.{IsScriptRun, MayGoOn}

-- the report of a graph
abbrev pub graph_report : Format → Planned → Graph → List ℕ
graph_report format plan g = report_text format g.terms plan.shapes (report plan g)

abbrev pub reply_text : Format → Planned → Graph → Reply → List ℕ
reply_text format plan g (Answers answer) = answer_text format g.terms answer
reply_text format plan g Report = graph_report format plan g
reply_text format plan g (Slice slice) = slice_text format g.terms slice
reply_text format plan g Nothing = []

-- the reply is what the step says, the run of the script is where it leads, and its work was done
pub record Replies (manner : Manner) (step : Step) (reply : Reply) (script : ScriptRun) (before after : Work)
    : Type 0 where
  pub text : step_text manner.format step
      ≡ reply_text manner.format script.engine.plan script.engine.graph reply
  pub stored : IsScriptRun manner.limits manner.format step.state script
  pub work : after ≡ and_then before step.work

-- a step, behind which this comes of the texts that later lines load
abbrev pub leaving : List Load → Step → Step
leaving rest step = record step { state = with_loads rest step.state }

-- of one of them it comes that a pattern was refused
abbrev pub is_any_refused : List Load → Bool
is_any_refused loads = list_any (λ load. is_pattern_refused load.judgement) loads

-- the reply is that to a line which is read so, whatever comes of the texts that later lines load; what comes
-- of its own is `told` and right, and a pattern that was refused is the last one
pub record Obeys (manner : Manner) (library : Library) (s : ScriptState) (reading : Result Command LineFault)
    (reply : Reply) (script : ScriptRun) (last : Option FlaggedText) (before after : Work) : Type 0 where
  pub told : List Load
  pub step : Step
  pub is : (rest : List Load)
      → reading_step manner.limits (with_loads (told ++ rest) s) reading ≡ leaving rest step
  pub right : (rest : List Load) (refused : Option FlaggedText) → (step.state.halted ≡ true → refused ≡ last)
      → IsReadingLoaded ⊥ manner.limits library refused (with_loads (told ++ rest) s) reading
  pub halts : is_any_refused told ≡ step.state.halted
  pub replies : Replies manner step reply script before after

-- a command, or a line, loads a text of which nothing is told: with it the script is cut short
abbrev pub IsCutBy : Limits → ScriptState → Command → Type 0
IsCutBy limits s command =
    command_step limits (with_loads [] s) command ≡ is_cut (with_loads [] s)

abbrev pub IsCutAt : Manner → ScriptState → List ℕ → Type 0
IsCutAt manner s line =
    reading_step manner.limits (with_loads [] s) (manner.lines line) ≡ is_cut (with_loads [] s)

-- whatever a line asks for: the names of the data text stay, the base and the format; and where it is
-- answered, one line more is counted, the run may go on, and no count of work fell
pub record MovesOn {E : Type 0} (result : Result Reply E) (old new : ScriptRun) (before after : Work)
    : Type 0 where
  pub names : new.document ≡ old.document
  pub base : new.base ≡ old.base
  pub format : new.format ≡ old.format
  pub goes_on : OnOk result (MayGoOn new)
  pub line : OnOk result (new.line ≡ old.line + 1)
  pub risen : OnOk result (NoneFell before after)

-- ... to a line that is always answered
abbrev pub AnswersOn : Reply → ScriptRun → ScriptRun → Work → Work → Type 0
AnswersOn reply old new before after = MovesOn {E = AllocError} (Ok reply) old new before after
