-- What lines say, line by line.
use Rattle.std.specs.Prelude.{ℕ, ◌+◌, List, None, Some, if◌then◌else◌}
use Rattle.shacl_drill.specs.Summary.{Told, evaluated_in, is_change, is_count, is_edit_answer}

abbrev pub nothing_told : Told
nothing_told = record { edits = 0; changed = 0; evaluated = 0; last_count = None }

-- the same with one line more
abbrev pub with_line : Told → List ℕ → Told
with_line told line = record {
  edits = told.edits + (if is_edit_answer line then 1 else 0);
  changed = told.changed + (if is_change line then 1 else 0);
  evaluated = told.evaluated + (if is_edit_answer line then evaluated_in line else 0);
  last_count = if is_count line then Some line else told.last_count;
}
