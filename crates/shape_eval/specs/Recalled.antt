-- What is remembered while pairs are evaluated: whether the answers are right, and which have become known.
-- It is told by pair, whatever remembers it, and by what it is for notes to have keys.
use Rattle.std.specs.Prelude.{◌≡◌, ℕ, ◌+◌, ◌<◌, List, Option, Some, flat_map, length, Contains, IsSome}
use Rattle.std.specs.Prelude.{◌↔◌, ◌⊎◌}
use Rattle.std.specs.List.{IsDistinct}
use Rattle.graph_view.specs.declared.key.Key.{Key}
use Rattle.graph_view.specs.Graph.{Graph}
use Rattle.comp_core.specs.Memo.{Remembered}
use Rattle.comp_core.specs.declared.pair.Pair.{Pair}
use Rattle.comp_core.specs.Pairs.{same_pair}
use Rattle.shape_eval.specs.declared.shape.PlanShape.{PlanShape}
use Rattle.shape_eval.specs.Nested.{nested_in}
use Rattle.shape_eval.specs.Own.{own_reads}
use Rattle.shape_eval.specs.Results.{results}

module _ {N : Type 0} where
  -- something is remembered of the pair
  abbrev pub IsRecalled : (Pair → Option (Remembered N)) → Pair → Type 0
  IsRecalled recalled p = IsSome (recalled p)

  -- what is remembered of a pair is what it comes to
  pub record IsRightOf (has : N → List Key → Type 0) (shapes : List PlanShape) (g : Graph) (p : Pair)
      (answer : Remembered N) : Type 0 where
    pub rows : answer.rows ≡ results shapes g p
    pub reads : has answer.reads (own_reads shapes g p)
    pub node : p.node < length g.terms

  -- of each pair of which something is
  pub record AreRight (has : N → List Key → Type 0) (shapes : List PlanShape) (g : Graph)
      (recalled : Pair → Option (Remembered N)) : Type 0 where
    pub each : (p : Pair) (answer : Remembered N) → recalled p ≡ Some answer
        → IsRightOf has shapes g p answer

  -- all of these pairs are remembered
  pub record AreRecalled (recalled : Pair → Option (Remembered N)) (pairs : List Pair) : Type 0 where
    pub each : (p : Pair) → Contains pairs p → IsRecalled recalled p

  -- with each pair that is remembered those nested in it are
  pub record IsClosed (shapes : List PlanShape) (g : Graph) (recalled : Pair → Option (Remembered N)) : Type 0
    where
      pub each : (p : Pair) → IsRecalled recalled p → AreRecalled recalled (nested_in shapes g p)

  -- what is remembered of a graph
  pub record IsRecallOf (has : N → List Key → Type 0) (shapes : List PlanShape) (g : Graph)
      (recalled : Pair → Option (Remembered N)) : Type 0 where
    pub right : AreRight has shapes g recalled
    pub closed : IsClosed shapes g recalled

  -- what was remembered still is, and beside it some of these pairs are, of which none was; a counter has
  -- counted them
  pub record Brings (old new : Pair → Option (Remembered N)) (among : List Pair) (before after : ℕ) : Type 0
    where
      pub brought : List Pair
      pub once : IsDistinct same_pair brought
      pub counted : after ≡ before + length brought
      pub are_among : (p : Pair) → Contains brought p → Contains among p
      pub were_not : (p : Pair) → Contains brought p → IsRecalled old p → ⊥
      pub known : (p : Pair) → IsRecalled new p ↔ (IsRecalled old p ⊎ Contains brought p)
      pub stays : (p : Pair) → IsRecalled old p → new p ≡ old p

  -- what is remembered is right of the graph, and all that is nested in these pairs is remembered
  pub record RemembersNested (has : N → List Key → Type 0) (shapes : List PlanShape) (g : Graph)
      (pairs : List Pair) (recalled : Pair → Option (Remembered N)) : Type 0 where
    pub recall : IsRecallOf has shapes g recalled
    pub nested : AreRecalled recalled (flat_map (nested_in shapes g) pairs)

  -- several pairs were evaluated in turn: all that is nested in them is remembered, and counted
  pub record BringsNested (has : N → List Key → Type 0) (shapes : List PlanShape) (g : Graph)
      (old new : Pair → Option (Remembered N)) (pairs : List Pair) (before after : ℕ) : Type 0 where
    pub remembers : RemembersNested has shapes g pairs new
    pub brings : Brings old new (flat_map (nested_in shapes g) pairs) before after
