-- What is kept for readers, whatever it is, what is staged, and what is kept once that is made.
use Rattle.std.specs.Prelude.{◌≡◌, List, Option, Some, None, if◌then◌else◌}
use Rattle.std.specs.Map.{lookup}
use Rattle.std.specs.Ordering.{eq_by_cmp}
use Rattle.read_records.specs.declared.reader.Reader.{Reader}
use Rattle.read_records.specs.Reader.{reader_cmp}

-- what stands for readers: something, or nothing that was kept
abbrev pub Notes : Type 0 → Type 0
Notes V = List (Reader × Option V)

-- what is kept, and what is staged
pub record Stored (V : Type 0) : Type 0 where
  pub kept : Notes V
  pub staged : Notes V

module _ {V : Type 0} where
  -- what stands for a reader, if it has an entry
  abbrev pub note_at : Notes V → Reader → Option (Option V)
  note_at notes reader = lookup (eq_by_cmp reader_cmp reader) notes

  abbrev pub if_noted : Option (Option V) → Option V
  if_noted None = None
  if_noted (Some noted) = noted

  -- what is kept for a reader
  abbrev pub kept_for : Stored V → Reader → Option V
  kept_for state reader = if_noted (note_at state.kept reader)

  -- what is staged for it: what is to be kept, or that nothing is
  abbrev pub change_for : Stored V → Reader → Option (Option V)
  change_for state reader = note_at state.staged reader

  abbrev pub changed_to : Option (Option V) → Option V → Option V
  changed_to None noted = noted
  changed_to (Some change) noted = change

  -- what is kept for a reader once what is staged is made
  abbrev pub coming_for : Stored V → Reader → Option V
  coming_for state reader = changed_to (change_for state reader) (kept_for state reader)

  -- the same is kept
  pub record SameNotes (old new : Stored V) : Type 0 where
    pub each : (reader : Reader) → kept_for new reader ≡ kept_for old reader

  -- the same is staged
  pub record SameStaged (old new : Stored V) : Type 0 where
    pub each : (reader : Reader) → change_for new reader ≡ change_for old reader

  -- this is staged for a reader, in the place of what was; for all others the same
  pub record StagesFor (old new : Stored V) (reader : Reader) (change : Option V) : Type 0 where
    pub each : (other : Reader) → change_for new other
        ≡ (if eq_by_cmp reader_cmp reader other then Some change else change_for old other)

  -- what was staged is kept, and of each other reader the same
  pub record MakesStaged (old new : Stored V) : Type 0 where
    pub each : (reader : Reader) → kept_for new reader ≡ coming_for old reader
