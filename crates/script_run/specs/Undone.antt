-- Changes that a script takes back and makes again.
use Rattle.std.specs.Prelude.{◌≡◌, ◌≤◌, All, IfOk, IfSome, List, None, ℕ, length}
use Rattle.shx_term.specs.declared.edit.Edit.{Edit}
use Rattle.shx_term.specs.declared.limits.Limits.{Limits}
use Rattle.shx_term.specs.Edit.{IsValidEdit}
use Rattle.edit_engine.specs.Course.{IsCourse, IsWhole}
use Rattle.edit_engine.specs.Edits.{net_of}
use Rattle.edit_engine.specs.Nets.{Effect, outcome}
use Rattle.script_lines.specs.Lines.{IsValidCommand}
use Rattle.script_run.specs.Load.{StatesValid}
use Rattle.script_run.specs.Manner.{LineReadings}
use Rattle.script_run.specs.Script.{edits_step, redo_step, undo_step}
use Rattle.script_run.specs.ScriptState.{ScriptState}

-- where a script stands: its graph is whole, what waits in its group is valid, as is what the texts state
-- that its lines load, and its changes can be taken back and made again
pub record StandsWell (limits : Limits) (s : ScriptState) : Type 0 where
  pub graph : IsWhole limits.triples s.graph
  pub group : IfSome s.group (All IsValidEdit)
  pub course : IsCourse limits.triples s.graph s.changes s.made
  pub within : s.made ≤ length s.changes
  pub loads : All (λ load. StatesValid load.reading) s.loads

-- what the lines ask to insert or to remove is valid
abbrev pub AreValidLines : LineReadings → List (List ℕ) → Type 0
AreValidLines readings lines = All (λ line. IfOk (readings line) IsValidCommand) lines

-- the edits are valid, and of them comes a change of the graph
pub record HaveEffect (limits : Limits) (s : ScriptState) (edits : List Edit) : Type 0 where
  pub valid : All IsValidEdit edits
  pub effect : outcome limits.triples limits.terms s.graph (net_of s.graph edits) ≡ Effect

-- where the script stands after edits, after undo, and after redo
abbrev pub after_edits : Limits → ScriptState → List Edit → ScriptState
after_edits limits s edits = (edits_step limits s edits).state

abbrev pub after_undo : Limits → ScriptState → ScriptState
after_undo limits s = (undo_step limits s None).state

abbrev pub after_redo : Limits → ScriptState → ScriptState
after_redo limits s = (redo_step limits s None).state

-- the edits were made and taken back
abbrev pub taken_back : Limits → ScriptState → List Edit → ScriptState
taken_back limits s edits = after_undo limits (after_edits limits s edits)

-- ... and made again
abbrev pub made_again : Limits → ScriptState → List Edit → ScriptState
made_again limits s edits = after_redo limits (taken_back limits s edits)
