-- What another plan makes of an engine: which pairs are evaluated, and what stays, under new numbers. Of each
-- new shape `alikes` has the number of the old one that is alike, where one is.
use Rattle.std.specs.Prelude.{◌≡◌, ℕ, ◌+◌, Bool, false, not, List, ◌++◌, Option, Some, None, filter, length}
use Rattle.std.specs.List.{filter_map}
use Rattle.std.specs.Set.{distinct_count}
use Rattle.graph_view.specs.Graph.{Graph}
use Rattle.comp_core.specs.declared.pair.Pair.{Pair}
use Rattle.comp_core.specs.Pairs.{same_pair}
use Rattle.shape_eval.specs.Plan.{Planned}
use Rattle.shape_eval.specs.Report.{pairs}
use Rattle.plan_swap.specs.Swap.{pair_after, pair_before}
use Rattle.read_records.specs.Recall.{Answer}
use Rattle.edit_engine.specs.EngineState.{EngineState}
use Rattle.edit_engine.specs.Remembered.{AreAllRecalled, answer_of, fresh}
use Rattle.edit_engine.specs.Touched.{is_among_pairs}

-- whether there is a pair, and it is one of the plan on the graph
abbrev pub is_pair_of : Planned → Graph → Option Pair → Bool
is_pair_of plan g None = false
is_pair_of plan g (Some p) = is_among_pairs (pairs plan g) p

-- whether a pair of the new plan was one of the old plan, at an alike shape
abbrev pub was_pair : Planned → List (Option ℕ) → Graph → Pair → Bool
was_pair old alikes g p = is_pair_of old g (pair_before alikes p)

-- the pairs that were none
abbrev pub swapped_pairs : Planned → Planned → List (Option ℕ) → Graph → List Pair
swapped_pairs old new alikes g = filter (λ p. not (was_pair old alikes g p)) (pairs new g)

-- ---- nested pairs

-- of some old pairs those of alike shapes, as pairs of the new plan
abbrev pub staying_over : List (Option ℕ) → List Pair → List Pair
staying_over alikes kept = filter_map (pair_after alikes) kept

-- what is remembered from then on
abbrev pub kept_over : Planned → List (Option ℕ) → Graph → List Pair → List Pair
kept_over new alikes g kept = staying_over alikes kept ++ fresh new g (staying_over alikes kept)

-- how many nested pairs are evaluated
abbrev pub fresh_over : Planned → List (Option ℕ) → Graph → List Pair → ℕ
fresh_over new alikes g kept = distinct_count same_pair (fresh new g (staying_over alikes kept))

-- exactly the nested pairs that are fresh were counted, and they are remembered beside those that stay
pub record SwapsFresh (plan : Planned) (alikes : List (Option ℕ)) (g : Graph) (old new : Pair → Option Answer)
    (before after : ℕ) : Type 0 where
  pub counted : (kept : List Pair) → AreAllRecalled old kept → after ≡ before + fresh_over plan alikes g kept
  pub kept : (kept : List Pair) → AreAllRecalled old kept
      → AreAllRecalled new (kept_over plan alikes g kept)

-- ---- the engine

-- the plan is the new one over the same graph, and as many pairs were evaluated as are swapped
pub record Adopts (old : EngineState) (plan : Planned) (alikes : List (Option ℕ)) (evaluated : ℕ)
    (new : EngineState) (before after : ℕ) : Type 0 where
  pub plan_is : new.plan ≡ plan
  pub graph : new.graph ≡ old.graph
  pub term_limit : new.term_limit ≡ old.term_limit
  pub triple_limit : new.triple_limit ≡ old.triple_limit
  pub settled : new.settled ≡ length old.graph.terms
  pub evaluated_are : evaluated ≡ length (swapped_pairs old.plan plan alikes old.graph)
  pub nested : SwapsFresh plan alikes old.graph (answer_of old.remembered) (answer_of new.remembered)
      before after
