-- A history is moved.
use Rattle.std.proofs.Common.{◌≡◌, ℕ, ◌∙◌}
use Rattle.shx_term.specs.declared.limits.Limits.{Limits}
use Rattle.edit_history.specs.History.{MovesTo, Past}
use Rattle.script_run.specs.Script.{past_of}
use Rattle.script_run.specs.ScriptState.{ScriptState}

-- a history that is moved is that of the script with so many changes made
pub moved_past : (limits : Limits) (s : ScriptState) (old new : Past) (made : ℕ) → old ≡ past_of limits s
    → MovesTo old new made → new ≡ past_of limits (record s { made = made })
moved_past limits s old new made is moves = λ i. record {
  changes = (moves.changes ∙ (λ j. (is j).changes)) i;
  cursor = moves.cursor_is i;
  depth = (moves.depth ∙ (λ j. (is j).depth)) i;
  staged = (moves.staged ∙ (λ j. (is j).staged)) i;
}
