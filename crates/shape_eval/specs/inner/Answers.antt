-- From the answers at the shapes that are named to the answer of a pair.
use Rattle.std.specs.Prelude.{◌≡◌, ℕ, List, Some, slice_get, Contains, ◌<◌, length}
use Rattle.graph_view.specs.declared.key.Key.{Key}
use Rattle.graph_view.specs.Graph.{Graph, AllKnown}
use Rattle.comp_core.specs.declared.memo.PairAnswer.{PairAnswer}
use Rattle.comp_core.specs.declared.pair.Pair.{Pair}
use Rattle.comp_core.specs.declared.row.ResultRow.{ResultRow}
use Rattle.comp_core.specs.Laws.{SameAnswers, SameFindings}
use Rattle.shape_eval.specs.declared.shape.PlanShape.{PlanShape}
use Rattle.shape_eval.specs.Nested.{asked_pairs}
use Rattle.shape_eval.specs.Own.{own_reads}
use Rattle.shape_eval.specs.Plan.{IsKnownPlan, RefersLower}
use Rattle.shape_eval.specs.Results.{pair_reads, results, shape_reads, shape_results, value_nodes}

-- an answer is as it is defined, by what it is for notes to have keys
pub record IsAnswer {N : Type 0} (has : N → List Key → Type 0) (shapes : List PlanShape) (g : Graph)
    (p : Pair) (answer : PairAnswer N) : Type 0 where
  pub rows : answer.rows.items ≡ results shapes g p
  pub reads : has answer.reads (own_reads shapes g p)

-- where the asked pairs have their results, one shape's are the results of the pair
abbrev pub AnswersFollow : Type 0
AnswersFollow =
    (shapes : List PlanShape) → RefersLower shapes → (g : Graph) → AllKnown g → IsKnownPlan g.terms shapes
    → (p : Pair) (sh : PlanShape) → slice_get shapes p.shape ≡ Some sh → p.node < length g.terms
    → (m : Pair → List ResultRow) (r : Pair → List Key)
    → ((d : Pair) → Contains (asked_pairs sh.constraints.items (value_nodes g sh.path p.node)) d
    → SameAnswers m (results shapes g) r (pair_reads shapes g) d)
    → SameFindings (shape_results g m (Some sh) p) (results shapes g p)
    (shape_reads g r (Some sh) p) (pair_reads shapes g p)

-- what a shape asks is of value nodes, at lower shapes
abbrev pub AsksBelow : Type 0
AsksBelow =
    (shapes : List PlanShape) → RefersLower shapes → (n : ℕ) (sh : PlanShape) → slice_get shapes n ≡ Some sh
    → (vs : List ℕ) (d : Pair) → Contains (asked_pairs sh.constraints.items vs) d
    → (d.shape < n) × Contains vs d.node
