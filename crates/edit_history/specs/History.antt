-- Changes that can be taken back and made again, and what becomes of them.
use Rattle.std.specs.Prelude.{◌≡◌, ℕ, ◌-◌, ◌==◌, List, ◌∷◌, [], ◌++◌, Option, None, Some, length, take, drop}
use Rattle.std.specs.Prelude.{slice_get, if◌then◌else◌}
use Rattle.edit_history.specs.declared.net.Net.{Net}

-- the changes, how many of them are made, how many are kept at most, and the one that is staged, if one is
pub record Past : Type 0 where
  pub changes : List Net
  pub cursor : ℕ
  pub depth : ℕ
  pub staged : Option Net

-- the latest so many
abbrev pub latest : {X : Type 0} → ℕ → List X → List X
latest depth xs = drop (length xs - depth) xs

-- after one more change: those that were taken back go, and of the rest the first where there are too many
abbrev pub history_after : Past → Net → List Net
history_after past net = latest past.depth (take past.cursor past.changes ++ net ∷ [])

abbrev pub undo_change : Past → Option Net
undo_change past = if past.cursor == 0 then None else slice_get past.changes (past.cursor - 1)

abbrev pub redo_change : Past → Option Net
redo_change past = slice_get past.changes past.cursor

pub record MovesTo (old new : Past) (cursor : ℕ) : Type 0 where
  pub changes : new.changes ≡ old.changes
  pub cursor_is : new.cursor ≡ cursor
  pub depth : new.depth ≡ old.depth
  pub staged : new.staged ≡ old.staged

pub record DropsStaged (old new : Past) : Type 0 where
  pub changes : new.changes ≡ old.changes
  pub cursor : new.cursor ≡ old.cursor
  pub depth : new.depth ≡ old.depth
  pub staged : new.staged ≡ None

pub record Stages (old new : Past) (net : Net) : Type 0 where
  pub changes : new.changes ≡ old.changes
  pub cursor : new.cursor ≡ old.cursor
  pub depth : new.depth ≡ old.depth
  pub staged : new.staged ≡ Some net

-- the history with one more change
abbrev pub entered : Past → Net → Past
entered past net = record {
  changes = history_after past net;
  cursor = length (history_after past net);
  depth = past.depth;
  staged = None;
}

abbrev pub commits_staged : Past → Past → Option Net → Type 0
commits_staged old new None = new ≡ old
commits_staged old new (Some net) = new ≡ entered old net

abbrev pub Commits : Past → Past → Type 0
Commits old new = commits_staged old new old.staged
