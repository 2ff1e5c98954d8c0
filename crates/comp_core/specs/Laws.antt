-- What is true of every component.
use Rattle.std.specs.Prelude.{◌≡◌, ℕ, List, Contains}
use Rattle.shx_term.specs.Members.{SameMembers}
use Rattle.graph_view.specs.declared.key.Key.{Key}
use Rattle.graph_view.specs.Agree.{Agree}
use Rattle.graph_view.specs.Graph.{Graph, AllKnown, HasTerms}
use Rattle.comp_core.specs.declared.pair.Pair.{Pair}
use Rattle.comp_core.specs.declared.pair.At.{At}
use Rattle.comp_core.specs.declared.row.ResultRow.{ResultRow}

-- what a component is checked on looks alike in two graphs: a reader of these keys cannot tell the one from
-- the other, and the numbers and value nodes have terms, which are the same in both
pub record LooksAlike (g h : Graph) (ids vs : List ℕ) (keys : List Key) : Type 0 where
  pub before : AllKnown g
  pub after : AllKnown h
  pub numbers : HasTerms g ids
  pub values : HasTerms g vs
  pub agree : Agree g h (Contains keys)

-- the same results, in the same order, which were read from the same keys
pub record SameAnswers (m n : Pair → List ResultRow) (r q : Pair → List Key) (p : Pair) : Type 0 where
  pub rows : m p ≡ n p
  pub reads : SameMembers (r p) (q p)

-- the same of a component
pub record SameFindings (xs ys : List ResultRow) (ks ls : List Key) : Type 0 where
  pub rows : xs ≡ ys
  pub reads : SameMembers ks ls

-- where two graphs agree on what is read in the first, and each asked pair on whose reads they agree has the
-- same answers, results and reads are the same
abbrev pub Agreement : {C : Type 0} → (C → List ℕ) → (C → List ℕ → List Pair)
    → (C → Graph → (Pair → List ResultRow) → At → List ℕ → List ResultRow)
    → (C → Graph → (Pair → List Key) → At → List ℕ → List Key) → Type 0
Agreement {C} numbers asks hits reads =
    (c : C) (g h : Graph) (m n : Pair → List ResultRow) (r q : Pair → List Key) (at : At) (vs : List ℕ)
    → LooksAlike g h (numbers c) vs (reads c g r at vs)
    → ((p : Pair) → Contains (asks c vs) p → Agree g h (Contains (r p)) → SameAnswers m n r q p)
    → SameFindings (hits c g m at vs) (hits c h n at vs) (reads c g r at vs) (reads c h q at vs)

-- asked nodes are value nodes
abbrev pub AsksValues : {C : Type 0} → (C → List ℕ → List Pair) → Type 0
AsksValues {C} asks = (c : C) (vs : List ℕ) (p : Pair) → Contains (asks c vs) p → Contains vs p.node
