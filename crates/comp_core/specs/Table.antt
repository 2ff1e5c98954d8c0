-- Answers that are given beforehand.
use Rattle.std.specs.Prelude.{Bool, false, ◌||◌, List, [], ◌∷◌, Option, Some, None, if◌then◌else◌}
use Rattle.comp_core.specs.declared.pair.Pair.{Pair}
use Rattle.comp_core.specs.declared.row.ResultRow.{ResultRow}
use Rattle.comp_core.specs.Pairs.{same_pair}
use Rattle.comp_core.specs.declared.table.Answered.{Answered}

abbrev pub has_pair : List Answered → Pair → Bool
has_pair [] p = false
has_pair (a ∷ others) p = same_pair a.pair p || has_pair others p

abbrev pub first_answered : List Answered → Pair → Option Answered
first_answered [] p = None
first_answered (a ∷ others) p = if same_pair a.pair p then Some a else first_answered others p

abbrev pub rows_in : Option Answered → List ResultRow
rows_in None = []
rows_in (Some answered) = answered.rows.items

abbrev pub table_rows : List Answered → Pair → List ResultRow
table_rows answers p = rows_in (first_answered answers p)
