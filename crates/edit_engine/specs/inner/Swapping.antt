-- What is taken over from under an old plan, while a new one is adopted.
use Rattle.std.specs.Prelude.{◌≡◌, true, false, List, Option, Some, MatchOption, map}
use Rattle.shx_term.specs.Members.{SameMembers}
use Rattle.graph_view.specs.declared.key.Key.{Key}
use Rattle.graph_view.specs.Graph.{Graph}
use Rattle.comp_core.specs.declared.memo.PairAnswer.{PairAnswer}
use Rattle.comp_core.specs.declared.pair.Pair.{Pair}
use Rattle.shape_eval.specs.declared.shape.PlanShape.{PlanShape}
use Rattle.shape_eval.specs.Recalled.{IsRecalled}
use Rattle.plan_swap.specs.declared.swap.Swap.{Swap}
use Rattle.plan_swap.specs.Renumbered.{key_renumbered, rows_renumbered}
use Rattle.plan_swap.specs.Swap.{number_after, pair_after, plan_before}
use Rattle.read_records.specs.Recall.{Answer}
use Rattle.edit_engine.specs.Renewal.{IsRight}
use Rattle.edit_engine.specs.Swapped.{was_pair}

-- an answer, under new numbers
pub record IsCopy (swap : Swap) (old new : Answer) : Type 0 where
  pub rows : new.rows ≡ rows_renumbered (number_after swap) old.rows
  pub reads : SameMembers new.reads (map (key_renumbered (number_after swap)) old.reads)

-- each answer that was remembered of an alike shape is so under the new number
pub record IsCopied (swap : Swap) (old new : Pair → Option Answer) (q p : Pair) : Type 0 where
  pub before : Answer
  pub after : Answer
  pub was : old q ≡ Some before
  pub is : new p ≡ Some after
  pub same : IsCopy swap before after

-- of all pairs of alike shapes, and of no others
pub record AreCopied (swap : Swap) (old new : Pair → Option Answer) : Type 0 where
  pub each : (q p : Pair) → IsRecalled old q → pair_after swap.alikes.now q ≡ Some p
      → IsCopied swap old new q p
  pub only : (p : Pair) → IsRecalled new p
      → (q : Pair) × (IsRecalled old q × (pair_after swap.alikes.now q ≡ Some p))

-- what was kept of a pair is what it comes to, where it was a pair; else nothing was
abbrev pub IsTakenOver : Swap → List PlanShape → Graph → Pair → Option (PairAnswer (List Key)) → Type 0
IsTakenOver swap shapes g p found =
    MatchOption found (was_pair (plan_before swap) swap.alikes.now g p ≡ false)
    (λ answer. (was_pair (plan_before swap) swap.alikes.now g p ≡ true)
    × IsRight shapes g (record { pair = p; answer = answer }))
