-- Where a script stands.
use Rattle.std.specs.Prelude.{ℕ, Bool, false, List, [], Option, None}
use Rattle.shx_term.specs.declared.edit.Edit.{Edit}
use Rattle.edit_history.specs.declared.net.Net.{Net}
use Rattle.graph_view.specs.Graph.{Graph}
use Rattle.comp_core.specs.declared.pair.Pair.{Pair}
use Rattle.shape_eval.specs.Nested.{nested_pairs}
use Rattle.shape_eval.specs.Plan.{Planned}
use Rattle.ttl_meaning.specs.State.{State}
use Rattle.script_run.specs.Load.{Load}

-- where a script stands: the graph, the plan of the shapes, the nested pairs that are remembered, the edits
-- of the open group where one is open, the changes that were made, of which the first so many were not taken
-- back, how many lines were answered, and whether one of them was refused; what comes of the texts that later
-- lines load, one after the other; whether the script has ended before its last line; and the state at the
-- end of the data text, whose base, prefixes and blank nodes are those of lines
pub record ScriptState : Type 0 where
  pub graph : Graph
  pub data_end : State
  pub plan : Planned
  pub kept : List Pair
  pub group : Option (List Edit)
  pub changes : List Net
  pub made : ℕ
  pub line : ℕ
  pub refused : Bool
  pub loads : List Load
  pub halted : Bool

-- before the first line, where no text is loaded
abbrev pub start_state : Graph → State → Planned → ScriptState
start_state g end plan = record {
  graph = g;
  data_end = end;
  plan = plan;
  kept = nested_pairs plan g;
  group = None;
  changes = [];
  made = 0;
  line = 0;
  refused = false;
  loads = [];
  halted = false;
}

-- the same where this comes of the texts that are loaded
abbrev pub with_loads : List Load → ScriptState → ScriptState
with_loads loads s = record s { loads = loads }
