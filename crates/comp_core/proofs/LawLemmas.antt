-- For the laws of components: numbers that keep their terms, and pairs that are asked by value node.
use Rattle.std.specs.Prelude.{◌≡◌, ◌<◌, ℕ, List, [], length, flat_map, slice_get, Contains}
use Rattle.shx_term.specs.Members.{SameMembers}
use Rattle.shx_term.proofs.MemberLemmas.{none_in_empty, Contains-flat_map, Contains-from_flat_map}
use Rattle.shx_term.proofs.MemberLemmas.{each_of_All}
use Rattle.shx_term.proofs.SetLemmas.{SameMembers-parts}
use Rattle.graph_view.specs.declared.key.Key.{Key}
use Rattle.graph_view.specs.Agree.{Agree}
use Rattle.graph_view.specs.Graph.{Graph}
use Rattle.graph_view.proofs.AgreeLemmas.{Agree-part, Agree-term}
use Rattle.comp_core.specs.declared.pair.Pair.{Pair}
use Rattle.comp_core.specs.declared.row.ResultRow.{ResultRow}
use Rattle.comp_core.specs.Laws.{LooksAlike, SameAnswers, AsksValues}

module _ (g h : Graph) (numbers vs : List ℕ) (keys : List Key)
    (alike : LooksAlike g h numbers vs keys) where
  pub number_kept : (id : ℕ) → Contains numbers id → slice_get g.terms id ≡ slice_get h.terms id
  number_kept id c =
      Agree-term g h id alike.agree (each_of_All (λ i. i < length g.terms) numbers alike.numbers id c)

  pub value_known : (v : ℕ) → Contains vs v → v < length g.terms
  value_known v c = each_of_All (λ i. i < length g.terms) vs alike.values v c

  pub value_kept : (v : ℕ) → Contains vs v → slice_get g.terms v ≡ slice_get h.terms v
  value_kept v c = Agree-term g h v alike.agree (value_known v c)

-- a component that asks nothing
pub asks_none : {C : Type 0} → AsksValues {C = C} (λ c vs. [])
asks_none c vs p asked = absurd (none_in_empty p asked)

-- pairs that are asked by value node
module _ (g h : Graph) (m n : Pair → List ResultRow) (r q : Pair → List Key) (part : ℕ → List Pair)
    (vs : List ℕ) (agree : Agree g h (Contains (flat_map (λ v. flat_map r (part v)) vs)))
    (same : (p : Pair) → Contains (flat_map part vs) p → Agree g h (Contains (r p)) → SameAnswers m n r q p)
  where
    pub asked_alike : (v : ℕ) → Contains vs v → (p : Pair) → Contains (part v) p → SameAnswers m n r q p
    asked_alike v i p j =
        same p (Contains-flat_map part vs v p i j)
        (Agree-part g h r (part v) p j (Agree-part g h (λ w. flat_map r (part w)) vs v i agree))

    pub asked_reads : SameMembers (flat_map (λ v. flat_map r (part v)) vs)
        (flat_map (λ v. flat_map q (part v)) vs)
    asked_reads =
        SameMembers-parts (λ v. flat_map r (part v)) (λ v. flat_map q (part v)) vs
        (λ v i. SameMembers-parts r q (part v) (λ p j. (asked_alike v i p j).reads))

pub asked_at : (part : ℕ → List Pair) → ((v : ℕ) (p : Pair) → Contains (part v) p → v ≡ p.node)
    → (vs : List ℕ) (p : Pair) → Contains (flat_map part vs) p → Contains vs p.node
asked_at part nodes vs p c =
    let found = Contains-from_flat_map part vs p c in
    rw (← nodes found.0 p found.2) found.1
