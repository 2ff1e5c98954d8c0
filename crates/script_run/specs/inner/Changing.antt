-- Changes of a script's graph, as its engine makes them.
use Rattle.std.specs.Prelude.{◌≡◌, ℕ, ◌+◌, ◌-◌, Bool, true, false, List, Option, Some, None, length}
use Rattle.shx_term.specs.declared.fault_codes.TheConstants.{GRAPH_TRIPLES, GRAPH_TERMS, NOTHING_TO_REDO}
use Rattle.shx_term.specs.declared.fault_codes.TheConstants.{NOTHING_TO_UNDO}
use Rattle.shx_term.specs.declared.edit.Edit.{Edit}
use Rattle.shx_term.specs.declared.limits.Limits.{Limits}
use Rattle.edit_history.specs.declared.net.Net.{Net}
use Rattle.edit_history.specs.History.{Past, history_after, redo_change, undo_change}
use Rattle.graph_view.specs.Graph.{Graph}
use Rattle.graph_view.specs.SameGraph.{SameGraph}
use Rattle.comp_core.specs.declared.pair.Pair.{Pair}
use Rattle.read_records.specs.Recall.{Answer}
use Rattle.edit_engine.specs.declared.edit.EditFault.{EditFault}
use Rattle.edit_engine.specs.declared.edit.EditFault.TheVariants.{TooManyTriples, TooManyTerms, Memory}
use Rattle.edit_engine.specs.Course.{IsCourse, IsReady}
use Rattle.edit_engine.specs.EngineState.{EngineState}
use Rattle.edit_engine.specs.Nets.{IsNetOn, changed_by, graph_after, is_no_change, outcome, turned}
use Rattle.edit_engine.specs.Remembered.{BringsFresh, answer_of}
use Rattle.edit_engine.specs.Touched.{touched_pairs}
use Rattle.script_run.specs.declared.reply.Reply.{Reply}
use Rattle.script_run.specs.declared.script_run.ScriptRun.{ScriptRun}
use Rattle.script_run.specs.Manner.{Manner}
use Rattle.script_run.specs.Script.{Step, redo_step, refusal, undo_step}
use Rattle.script_run.specs.ScriptState.{ScriptState}
use Rattle.script_run.specs.Work.{Work}
use Rattle.script_run.specs.Replies.{Replies}

-- the same comes of a change of the graph as the script has it, and as the engine stores it
pub record ComesAlike (engine : EngineState) (g : Graph) (net : Net) : Type 0 where
  pub outcomes : (triples terms : ℕ) → outcome triples terms g net ≡ outcome triples terms engine.graph net
  pub graphs : SameGraph (graph_after g net) (graph_after engine.graph net)
  pub touched : touched_pairs engine.plan g (graph_after g net) (changed_by g net)
      ≡ touched_pairs engine.plan engine.graph (graph_after engine.graph net) (changed_by engine.graph net)
  pub fresh : (new : Pair → Option Answer) (before after : ℕ)
      → BringsFresh engine.plan engine.graph (graph_after engine.graph net) (changed_by engine.graph net)
      (answer_of engine.remembered) new before after
      → BringsFresh engine.plan g (graph_after g net) (changed_by g net) (answer_of engine.remembered) new
      before after

-- ---- the way through the changes: back, or forth again

-- the change that is next on the way
abbrev pub next_change : Bool → Past → Option Net
next_change true past = undo_change past
next_change false past = redo_change past

-- the code where there is none
abbrev pub none_next : Bool → ℕ
none_next true = NOTHING_TO_UNDO
none_next false = NOTHING_TO_REDO

-- how many changes are made behind it
abbrev pub made_behind : Bool → ℕ → ℕ
made_behind true made = made - 1
made_behind false made = made + 1

abbrev pub way_step : Bool → Limits → ScriptState → Option (List Edit) → Step
way_step true limits s waiting = undo_step limits s waiting
way_step false limits s waiting = redo_step limits s waiting

-- a history of changes that can be taken back and made again stays one, with each change that it is moved by
pub record StaysCourse (most : ℕ) (g : Graph) (past : Past) : Type 0 where
  pub made : (net : Net) (h : Graph) → IsNetOn g net → is_no_change net ≡ false
      → SameGraph (graph_after g net) h → IsCourse most h (history_after past net)
      (length (history_after past net))
  pub ready : (back : Bool) (net : Net) → next_change back past ≡ Some net → IsReady most g (turned back net)
  pub moved : (back : Bool) (net : Net) (h : Graph) → next_change back past ≡ Some net
      → SameGraph (graph_after g (turned back net)) h
      → IsCourse most h past.changes (made_behind back past.cursor)

-- how edits are refused, by the fault; want of memory says nothing
abbrev pub IsRefusedBy : Manner → ScriptState → EditFault → Reply → ScriptRun → Work → Type 0
IsRefusedBy manner s TooManyTriples reply script work =
    Replies manner (refusal s GRAPH_TRIPLES None) reply script work work
IsRefusedBy manner s TooManyTerms reply script work =
    Replies manner (refusal s GRAPH_TERMS None) reply script work work
IsRefusedBy manner s Memory reply script work = ⊥
