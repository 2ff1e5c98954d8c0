-- What is remembered of pairs.
use Rattle.std.specs.Prelude.{◌≡◌, List, Option, Some, if◌then◌else◌}
use Rattle.comp_core.specs.declared.memo.PairAnswer.{PairAnswer}
use Rattle.comp_core.specs.declared.memo.Recalled.{Recalled}
use Rattle.comp_core.specs.declared.pair.Pair.{Pair}
use Rattle.comp_core.specs.declared.row.ResultRow.{ResultRow}
use Rattle.comp_core.specs.Pairs.{same_pair}

-- the results of a pair, and what notes the keys that they were read from
pub record Remembered (N : Type 0) : Type 0 where
  pub rows : List ResultRow
  pub reads : N

-- an answer, as it is remembered
abbrev pub remembered_of : {N : Type 0} → PairAnswer N → Remembered N
remembered_of answer = record { rows = answer.rows.items; reads = answer.reads }

-- the same, lent
abbrev pub lent : {N : Type 0} → Recalled N → Remembered N
lent found = record { rows = found.rows.now; reads = found.reads.now }

-- this answer is remembered of a pair, in the place of what was; of all others the same
pub record RemembersAlso {N : Type 0} (old new : Pair → Option (Remembered N)) (p : Pair)
    (answer : Remembered N) : Type 0 where
  pub each : (q : Pair) → new q ≡ (if same_pair p q then Some answer else old q)

-- of each pair the same is remembered
pub record RemembersSame {N : Type 0} (old new : Pair → Option (Remembered N)) : Type 0 where
  pub each : (q : Pair) → new q ≡ old q
