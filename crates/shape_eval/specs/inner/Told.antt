-- What is told of pairs while one is evaluated.
use Rattle.std.specs.Prelude.{◌≡◌, true, List, [], Option, Some, None, if◌then◌else◌}
use Rattle.graph_view.specs.declared.key.Key.{Key}
use Rattle.comp_core.specs.Memo.{Remembered}
use Rattle.comp_core.specs.declared.pair.Pair.{Pair}
use Rattle.comp_core.specs.declared.row.ResultRow.{ResultRow}
use Rattle.shape_eval.specs.declared.shape.PlanShape.{PlanShape}
use Rattle.shape_eval.specs.Nested.{is_evaluated_at}
use Rattle.shape_eval.specs.Own.{asked_key}
use Rattle.shape_eval.specs.Recalled.{IsRecalled}

module _ {N : Type 0} where
  abbrev pub rows_if_any : Option (Remembered N) → List ResultRow
  rows_if_any None = []
  rows_if_any (Some answer) = answer.rows

  module _ (shapes : List PlanShape) (recalled : Pair → Option (Remembered N)) where
    -- what is remembered, of shapes that are evaluated
    abbrev pub told_of : Pair → Option (Remembered N)
    told_of p = if is_evaluated_at shapes p then recalled p else None

    abbrev pub rows_told : Pair → List ResultRow
    rows_told p = rows_if_any (told_of p)

    -- where its shape is evaluated, its answer is remembered
    pub record IsHeld (p : Pair) : Type 0 where
      pub held : is_evaluated_at shapes p ≡ true → IsRecalled recalled p

    -- its shape is evaluated, and its answer is not remembered
    pub record IsToFind (p : Pair) : Type 0 where
      pub evaluated : is_evaluated_at shapes p ≡ true
      pub absent : recalled p ≡ None

-- by pair, the key of its answer, where its shape is evaluated
abbrev pub Tells : List PlanShape → (Pair → List Key) → Type 0
Tells shapes r = (p : Pair) → r p ≡ asked_key shapes p
