-- Which nested pairs are remembered beside a graph, and which a change of the graph brings.
use Rattle.std.specs.Prelude.{◌≡◌, ℕ, ◌+◌, not, List, ◌++◌, Option, filter, Contains, ◌↔◌}
use Rattle.std.specs.FinMap.{FinMap, get}
use Rattle.std.specs.Set.{distinct_count}
use Rattle.shx_term.specs.declared.triple.Triple.{Triple}
use Rattle.graph_view.specs.Graph.{Graph}
use Rattle.comp_core.specs.declared.pair.Pair.{Pair}
use Rattle.comp_core.specs.Pairs.{same_pair}
use Rattle.shape_eval.specs.declared.shape.PlanShape.{PlanShape}
use Rattle.shape_eval.specs.Nested.{nested_pairs}
use Rattle.shape_eval.specs.Plan.{Planned}
use Rattle.shape_eval.specs.Recalled.{IsRecalled}
use Rattle.shape_eval.specs.Results.{pair_reads}
use Rattle.read_records.specs.Recall.{Answer, pair_cmp}
use Rattle.edit_engine.specs.Touched.{is_among_pairs, is_any_touched}

-- of some pairs, those that a change leaves: no changed triple touches what was read for them
abbrev pub staying : List PlanShape → Graph → List Triple → List Pair → List Pair
staying shapes g changed kept = filter (λ p. not (is_any_touched changed (pair_reads shapes g p))) kept

-- the nested pairs of a graph that are not among these
abbrev pub fresh : Planned → Graph → List Pair → List Pair
fresh plan h stay = filter (λ p. not (is_among_pairs stay p)) (nested_pairs plan h)

-- what is remembered from then on: a pair stays though none needs it any longer
abbrev pub kept_pairs : Planned → Graph → Graph → List Triple → List Pair → List Pair
kept_pairs plan g h changed kept =
    staying plan.shapes g changed kept ++ fresh plan h (staying plan.shapes g changed kept)

-- how many nested pairs are evaluated for the change
abbrev pub fresh_count : Planned → Graph → Graph → List Triple → List Pair → ℕ
fresh_count plan g h changed kept =
    distinct_count same_pair (fresh plan h (staying plan.shapes g changed kept))

-- how many nested pairs a graph has
abbrev pub nested_count : Planned → Graph → ℕ
nested_count plan g = distinct_count same_pair (nested_pairs plan g)

-- what is remembered, by pair
abbrev pub Remembering : Type 0
Remembering = FinMap pair_cmp Answer

abbrev pub answer_of : Remembering → Pair → Option Answer
answer_of remembered p = get remembered p

-- these are the pairs that are remembered
pub record AreAllRecalled (recalled : Pair → Option Answer) (pairs : List Pair) : Type 0 where
  pub each : (p : Pair) → Contains pairs p ↔ IsRecalled recalled p

-- from a graph to the changed one, exactly the nested pairs that are fresh were counted, and they are
-- remembered beside those that stay
pub record BringsFresh (plan : Planned) (g h : Graph) (changed : List Triple) (old new : Pair → Option Answer)
    (before after : ℕ) : Type 0 where
  pub counted : (kept : List Pair) → AreAllRecalled old kept
      → after ≡ before + fresh_count plan g h changed kept
  pub kept : (kept : List Pair) → AreAllRecalled old kept
      → AreAllRecalled new (kept_pairs plan g h changed kept)
