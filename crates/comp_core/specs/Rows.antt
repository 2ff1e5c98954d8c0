-- Results (SHACL, section 3.6.2).
use Rattle.std.specs.Prelude.{ℕ, Bool, ◌==◌, List, [], length, Option}
use Rattle.comp_core.specs.declared.detail.DetailRow.{DetailRow}
use Rattle.comp_core.specs.declared.row.ResultRow.{ResultRow}

-- a result that rests on these; definitions make results by this alone
abbrev pub row_over : List DetailRow → ℕ → Option ℕ → Option ℕ → ℕ → ℕ → ResultRow
row_over details focus value predicate shape kind = record {
  focus = focus;
  value = value;
  predicate = predicate;
  shape = shape;
  kind = kind;
  details = details;
}

-- one that rests on no other
abbrev pub plain_row : ℕ → Option ℕ → Option ℕ → ℕ → ℕ → ResultRow
plain_row = row_over []

-- a result as another one rests on it: without its own details
abbrev pub detail_of : ResultRow → DetailRow
detail_of row = record {
  focus = row.focus;
  value = row.value;
  predicate = row.predicate;
  shape = row.shape;
  kind = row.kind;
}

abbrev pub is_empty : {X : Type 0} → List X → Bool
is_empty xs = length xs == 0
