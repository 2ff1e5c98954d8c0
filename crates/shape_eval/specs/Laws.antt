-- What is true of results and targets, over any graphs.
use Rattle.std.specs.Prelude.{◌≡◌, ℕ, ◌<◌, true, false, List, ◌∷◌, flat_map, length, All, Contains, IfSome}
use Rattle.std.specs.Prelude.{◌↔◌, ◌⊎◌}
use Rattle.shx_term.specs.declared.term.Term.{Term}
use Rattle.shx_term.specs.Members.{SameMembers}
use Rattle.shx_term.specs.Vocabulary.{HasVocabulary}
use Rattle.graph_view.specs.declared.key.Key.{Key}
use Rattle.graph_view.specs.declared.key.Key.TheVariants.{Answer, In, Out, Predicate, Subject}
use Rattle.graph_view.specs.Agree.{Agree}
use Rattle.graph_view.specs.Graph.{Graph, AllKnown}
use Rattle.graph_view.specs.Key.{is_answer}
use Rattle.comp_core.specs.declared.pair.Pair.{Pair}
use Rattle.comp_core.specs.declared.detail.DetailRow.{DetailRow}
use Rattle.comp_core.specs.declared.row.ResultRow.{ResultRow}
use Rattle.comp_core.specs.Laws.{SameAnswers}
use Rattle.comp_core.specs.Pairs.{answer_key}
use Rattle.comp_core.specs.Rows.{detail_of}
use Rattle.shape_eval.specs.declared.shape.PlanShape.{PlanShape}
use Rattle.shape_eval.specs.Nested.{is_evaluated_at, nested_in, pairs_below}
use Rattle.shape_eval.specs.Own.{own_reads}
use Rattle.shape_eval.specs.Plan.{IsKnownPlan, RefersLower}
use Rattle.shape_eval.specs.Results.{pair_reads, reads_within, results, results_within}
use Rattle.shape_eval.specs.Targets.{target_nodes, target_reads}

-- the same results, and the same reads, of a pair in both graphs
abbrev pub IsSamePair : List PlanShape → Graph → Graph → Pair → Type 0
IsSamePair shapes g h p =
    SameAnswers (results shapes g) (results shapes h) (pair_reads shapes g) (pair_reads shapes h) p

-- the same target nodes, and the same reads, of a shape in both graphs
pub record IsSameTarget (shapes : List PlanShape) (g h : Graph) (n : ℕ) : Type 0 where
  pub nodes : target_nodes shapes g n ≡ target_nodes shapes h n
  pub reads : SameMembers (target_reads shapes g n) (target_reads shapes h n)

-- nothing but what is read of the first graph matters to the results of a pair
abbrev pub ResultsDependOnReads : Type 0
ResultsDependOnReads =
    (shapes : List PlanShape) → RefersLower shapes → (g h : Graph) → AllKnown g → AllKnown h
    → IsKnownPlan g.terms shapes → (p : Pair) → p.node < length g.terms
    → Agree g h (Contains (pair_reads shapes g p)) → IsSamePair shapes g h p

-- nor to the target nodes of a shape
abbrev pub TargetsDependOnReads : Type 0
TargetsDependOnReads =
    (shapes : List PlanShape) (g h : Graph) → AllKnown g → AllKnown h → IsKnownPlan g.terms shapes
    → (n : ℕ) → Agree g h (Contains (target_reads shapes g n)) → IsSameTarget shapes g h n

-- more levels than a shape's number change nothing
abbrev pub LevelsDoNotMatter : Type 0
LevelsDoNotMatter =
    (shapes : List PlanShape) → RefersLower shapes → (g : Graph) → AllKnown g → IsKnownPlan g.terms shapes
    → (k l : ℕ) (p : Pair) → p.shape < k → p.shape < l → p.node < length g.terms
    → SameAnswers (results_within k shapes g) (results_within l shapes g)
    (reads_within k shapes g) (reads_within l shapes g) p

-- ---- nested pairs

-- what is read for a nested pair is read for the pair
abbrev pub NestedReadsAreRead : Type 0
NestedReadsAreRead =
    (shapes : List PlanShape) → RefersLower shapes → (g : Graph) → AllKnown g → IsKnownPlan g.terms shapes
    → (p : Pair) → p.node < length g.terms → (d : Pair) → Contains (nested_in shapes g p) d
    → (key : Key) → Contains (pair_reads shapes g d) key → Contains (pair_reads shapes g p) key

-- nothing but what is read for a pair matters to which pairs are nested in it
abbrev pub NestedDependOnReads : Type 0
NestedDependOnReads =
    (shapes : List PlanShape) → RefersLower shapes → (g h : Graph) → AllKnown g → AllKnown h
    → IsKnownPlan g.terms shapes → (p : Pair) → p.node < length g.terms
    → Agree g h (Contains (pair_reads shapes g p)) → nested_in shapes g p ≡ nested_in shapes h p

-- a nested pair is one of a lower shape that is evaluated, at a node that has a term
pub record IsNestedPair (shapes : List PlanShape) (g : Graph) (p d : Pair) : Type 0 where
  pub lower : d.shape < p.shape
  pub node : d.node < length g.terms
  pub evaluated : is_evaluated_at shapes d ≡ true

abbrev pub NestedAreLower : Type 0
NestedAreLower =
    (shapes : List PlanShape) → RefersLower shapes → (g : Graph) → AllKnown g → (p : Pair)
    → p.node < length g.terms → (d : Pair) → Contains (nested_in shapes g p) d → IsNestedPair shapes g p d

-- what is nested in a nested pair is nested in the pair
abbrev pub NestedAreClosed : Type 0
NestedAreClosed =
    (shapes : List PlanShape) → RefersLower shapes → (g : Graph) (p d e : Pair)
    → Contains (nested_in shapes g p) d → Contains (nested_in shapes g d) e
    → Contains (nested_in shapes g p) e

-- nested in a pair are those right below it, and what is nested in these
abbrev pub NestedAreBelow : Type 0
NestedAreBelow =
    (shapes : List PlanShape) → RefersLower shapes → (g : Graph) (p : Pair)
    → nested_in shapes g p ≡ flat_map (λ d. d ∷ nested_in shapes g d) (pairs_below shapes g p)

-- ---- what is read for a pair itself

-- a part of the graph is read for a pair where it is read for the pair itself, or for one right below
pub record IsReadThrough (shapes : List PlanShape) (g : Graph) (p : Pair) (key : Key) : Type 0 where
  pub below : Pair
  pub stands : Contains (pairs_below shapes g p) below
  pub read : Contains (pair_reads shapes g below) key

abbrev pub ReadsAreOwnOrBelow : Type 0
ReadsAreOwnOrBelow =
    (shapes : List PlanShape) → RefersLower shapes → (g : Graph) → AllKnown g → IsKnownPlan g.terms shapes
    → (p : Pair) → p.node < length g.terms → (key : Key)
    → Contains (pair_reads shapes g p) key
    ↔ ((Contains (own_reads shapes g p) key × (is_answer key ≡ false)) ⊎ IsReadThrough shapes g p key)

-- and exactly of the pairs right below what was found of them is read
abbrev pub AnswersReadAreBelow : Type 0
AnswersReadAreBelow =
    (shapes : List PlanShape) (g : Graph) (p d : Pair)
    → Contains (own_reads shapes g p) (answer_key d) ↔ Contains (pairs_below shapes g p) d

-- nothing but that matters to what is read for the pair itself
abbrev pub OwnReadsDependOnThemselves : Type 0
OwnReadsDependOnThemselves =
    (shapes : List PlanShape) → RefersLower shapes → (g h : Graph) → AllKnown g → AllKnown h
    → IsKnownPlan g.terms shapes → (p : Pair) → p.node < length g.terms
    → Agree g h (Contains (own_reads shapes g p))
    → SameMembers (own_reads shapes g p) (own_reads shapes h p)

-- ---- the numbers in what is found and read

-- the numbers in what was found have terms, and its shape is one of so many
pub record IsKnownFinding (terms : List Term) (count : ℕ) (row : DetailRow) : Type 0 where
  pub focus : row.focus < length terms
  pub value : IfSome row.value (λ id. id < length terms)
  pub predicate : IfSome row.predicate (λ id. id < length terms)
  pub shape : row.shape < count

-- of a result, and of each on which it rests
pub record IsKnownRow (terms : List Term) (count : ℕ) (row : ResultRow) : Type 0 where
  pub found : IsKnownFinding terms count (detail_of row)
  pub details : All (IsKnownFinding terms count) row.details

-- the key is of a part of the graph, and its numbers have terms
abbrev pub IsKnownKey : List Term → Key → Type 0
IsKnownKey terms (Out s p) = (s < length terms) × (p < length terms)
IsKnownKey terms (In p o) = (p < length terms) × (o < length terms)
IsKnownKey terms (Subject s) = s < length terms
IsKnownKey terms (Predicate p) = p < length terms
IsKnownKey terms (Answer shape node) = ⊥

-- where the node of a pair has a term, the numbers in its results do, and their shapes are of the plan
abbrev pub ResultsHaveTerms : Type 0
ResultsHaveTerms =
    (shapes : List PlanShape) (g : Graph) → AllKnown g → (p : Pair) → p.node < length g.terms
    → All (IsKnownRow g.terms (length shapes)) (results shapes g p)

-- and the numbers in its keys do; it may read of the vocabulary
abbrev pub PairReadsHaveTerms : Type 0
PairReadsHaveTerms =
    (shapes : List PlanShape) (g : Graph) → AllKnown g → HasVocabulary g.terms → IsKnownPlan g.terms shapes
    → (p : Pair) → p.node < length g.terms → All (IsKnownKey g.terms) (pair_reads shapes g p)

-- and those of the targets of a shape
abbrev pub TargetReadsHaveTerms : Type 0
TargetReadsHaveTerms =
    (shapes : List PlanShape) (g : Graph) → AllKnown g → HasVocabulary g.terms → IsKnownPlan g.terms shapes
    → (n : ℕ) → All (IsKnownKey g.terms) (target_reads shapes g n)
