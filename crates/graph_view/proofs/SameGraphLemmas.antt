-- Lists with the same triples, and graphs that are the same: laws, where they come from, and look-ups.
use Rattle.std.specs.Prelude.{◌≡◌, ℕ, Bool, true, false, not, List, [], ◌∷◌, map, filter, length}
use Rattle.std.specs.Prelude.{Contains, if◌then◌else◌, ◌⊎◌}
use Rattle.std.specs.List.{list_any, IsDistinct, AllByRecursion}
use Rattle.std.specs.Cmp.{both_ways}
use Rattle.std.proofs.Common.{refl, sym, ap, ◌∙◌, subst, inl, inr}
use Rattle.std.proofs.lemmas.Map.Keys.{IsDistinct-head, IsDistinct-tail, IsDistinct-cons}
use Rattle.std.proofs.lemmas.Map.Made.{length-from_same_keys}
use Rattle.shx_term.specs.declared.term.Term.{Term}
use Rattle.shx_term.specs.declared.triple.Triple.{Triple}
use Rattle.shx_term.specs.IdOrder.{in_term_order}
use Rattle.shx_term.specs.Triple.{same_triple}
use Rattle.shx_term.specs.inner.TripleLaws.{same_triple_equiv, same_triple_exact}
use Rattle.shx_term.specs.TripleOrder.{triple_cmp, in_triple_order}
use Rattle.shx_term.proofs.IdOrderLemmas.{in_term_order_same}
use Rattle.shx_term.proofs.InOrderLemmas.{in_order_same}
use Rattle.shx_term.proofs.MemberLemmas.{none_in_empty, Contains-head, Contains-tail, Contains-cases}
use Rattle.shx_term.proofs.MemberLemmas.{Contains-filter}
use Rattle.shx_term.proofs.MemberLemmas.{Contains-from_filter}
use Rattle.shx_term.proofs.TripleOrderLemmas.{triple_order}
use Rattle.graph_view.specs.declared.key.Key.TheVariants.{Out}
use Rattle.graph_view.specs.Graph.{Graph, HasAlso, IsWithout, first_places, graph_of}
use Rattle.graph_view.specs.Graph.{objects_of}
use Rattle.graph_view.specs.Key.{look, is_touching}
use Rattle.shx_term.specs.Members.{SameMembers}
use Rattle.graph_view.specs.SameGraph.{SameGraph}
use Rattle.shx_term.proofs.SetLemmas.{SameMembers-sym, SameMembers-then}
use Rattle.shx_term.proofs.SetLemmas.{SameMembers-filter, SameMembers-map}
use Rattle.graph_view.proofs.TripleSetLemmas.{triple_held}

-- what is made of the same triples is the same in order
module _ (terms : List Term) (triples others : List Triple) (same : SameMembers triples others) where
  pub numbers_same : (f : Triple → ℕ)
      → in_term_order terms (map f triples) ≡ in_term_order terms (map f others)
  numbers_same f =
      in_term_order_same terms (map f triples) (map f others)
      (SameMembers-map f triples others same).each

  pub triples_same : in_triple_order terms triples ≡ in_triple_order terms others
  triples_same = in_order_same (triple_cmp terms) (triple_order terms) triples others same.each

-- lists of distinct triples that hold the same are as long
pub length-same : (triples others : List Triple) → SameMembers triples others
    → IsDistinct same_triple triples → IsDistinct same_triple others → length triples ≡ length others
length-same triples others same distinct distinct' =
    length-from_same_keys same_triple_equiv triples others distinct distinct' (λ t.
    let one = triple_held triples t (list_any (same_triple t) triples) refl in
    let other = triple_held others t (list_any (same_triple t) others) refl in
    both_ways (list_any (same_triple t) triples) (list_any (same_triple t) others)
    (λ h. other.1 ((same.each t).0 (one.0 h)))
    (λ h. one.1 ((same.each t).1 (other.0 h))))

-- a filter keeps what each element has, and keeps elements apart
module _ {X : Type 0} (p : X → Bool) where
  all_kept : (P : X → Type 0) (xs : List X) → AllByRecursion P xs → AllByRecursion P (filter p xs)
  all_kept P [] all = all
  all_kept P (x ∷ xs) all =
      elim (p x) as (λ b. AllByRecursion P (if b then x ∷ filter p xs else filter p xs)) [
        | true ↦ (all.0, all_kept P xs all.1)
        | false ↦ all_kept P xs all.1
      ]

  pub IsDistinct-filter : (same : X → X → Bool) (xs : List X)
      → IsDistinct same xs → IsDistinct same (filter p xs)
  IsDistinct-filter same [] distinct = distinct
  IsDistinct-filter same (x ∷ xs) distinct =
      let rest = IsDistinct-filter same xs (IsDistinct-tail same x xs distinct) in
      let apart = all_kept (λ y. same x y ≡ false) xs (IsDistinct-head same x xs distinct) in
      elim (p x) as (λ b. IsDistinct same (if b then x ∷ filter p xs else filter p xs)) [
        | true ↦ IsDistinct-cons same x (filter p xs) apart rest
        | false ↦ rest
      ]

-- taking each triple at its first place keeps the members
kept_from : (ts : List Triple) (t : Triple) → Contains (first_places ts) t → Contains ts t
kept_from [] t c = absurd (none_in_empty t c)
kept_from (u ∷ us) t c =
    let others = λ (v : Triple). not (same_triple u v) in
    elim (Contains-cases u t (filter others (first_places us)) c) [
      | inl e ↦ subst (Contains (u ∷ us)) (sym e) (Contains-head u us)
      | inr d ↦ Contains-tail u t us (kept_from us t (Contains-from_filter others (first_places us) t d).0)
    ]

differs : (t u : Triple) → (u ≡ t) ⊎ (not (same_triple t u) ≡ true)
differs t u =
    elim (same_triple t u) as (λ b. same_triple t u ≡ b → (u ≡ t) ⊎ (not b ≡ true)) [
      | true ↦ λ h. inl (sym (same_triple_exact t u h))
      | false ↦ λ _. inr refl
    ] refl

kept_to : (ts : List Triple) (t : Triple) → Contains ts t → Contains (first_places ts) t
kept_to [] t c = absurd (none_in_empty t c)
kept_to (u ∷ us) t c =
    let others = λ (v : Triple). not (same_triple u v) in
    let kept = filter others (first_places us) in
    let first = λ (e : t ≡ u). subst (Contains (u ∷ kept)) (sym e) (Contains-head u kept) in
    elim (differs u t) [
      | inl e ↦ first e
      | inr other ↦ elim (Contains-cases u t us c) [
        | inl e ↦ first e
        | inr d ↦ Contains-tail u t kept (Contains-filter others (first_places us) t (kept_to us t d) other)
      ]
    ]

pub first_places_same : (triples : List Triple) → SameMembers (first_places triples) triples
first_places_same triples = record { each = λ t. (kept_from triples t, kept_to triples t) }

-- and leaves them apart
others_differ : (t : Triple) (us : List Triple)
    → AllByRecursion (λ u. same_triple t u ≡ false) (filter (λ u. not (same_triple t u)) us)
others_differ t [] = tt
others_differ t (u ∷ us) =
    let others = filter (λ v. not (same_triple t v)) us in
    let P = λ (vs : List Triple). AllByRecursion (λ v. same_triple t v ≡ false) vs in
    elim (same_triple t u) as (λ b. same_triple t u ≡ b → P (if not b then u ∷ others else others)) [
      | true ↦ λ _. others_differ t us
      | false ↦ λ h. (h, others_differ t us)
    ] refl

pub first_places-distinct : (triples : List Triple) → IsDistinct same_triple (first_places triples)
unfolding IsDistinct
first_places-distinct [] = tt
first_places-distinct (t ∷ ts) =
    let others = λ (u : Triple). not (same_triple t u) in
    IsDistinct-cons same_triple t (filter others (first_places ts)) (others_differ t (first_places ts))
    (IsDistinct-filter others same_triple (first_places ts) (first_places-distinct ts))

pub SameGraph-then : {g h i : Graph} → SameGraph g h → SameGraph h i → SameGraph g i
SameGraph-then a b = record {
  terms = a.terms ∙ b.terms;
  triples = SameMembers-then a.triples b.triples;
  count = a.count ∙ b.count;
}

-- graphs are the same where their triples are distinct and the same
pub SameGraph-distinct : (g h : Graph) → g.terms ≡ h.terms → SameMembers g.triples h.triples
    → IsDistinct same_triple g.triples → IsDistinct same_triple h.triples → SameGraph g h
SameGraph-distinct g h terms same distinct distinct' = record {
  terms = terms;
  triples = same;
  count = length-same g.triples h.triples same distinct distinct';
}

-- a graph that holds exactly the triples of a list is that of the list
pub SameGraph-graph_of : (terms : List Term) (triples : List Triple) (g : Graph) → g.terms ≡ terms
    → SameMembers g.triples triples → IsDistinct same_triple g.triples → SameGraph (graph_of terms triples) g
SameGraph-graph_of terms triples g e same distinct =
    SameGraph-distinct (graph_of terms triples) g (sym e)
    (SameMembers-then (first_places_same triples) (SameMembers-sym same))
    (first_places-distinct triples) distinct

-- the same triples and one more hold the same
also_to : {g g' h h' : List Triple} (t : Triple) → SameMembers g h → HasAlso g g' t → HasAlso h h' t
    → (u : Triple) → Contains g' u → Contains h' u
also_to t same also also' u c = elim ((also.each u).0 c) [
  | inl held ↦ (also'.each u).1 (inl ((same.each u).0 held))
  | inr e ↦ (also'.each u).1 (inr e)
]

pub SameMembers-also : {g g' h h' : List Triple} (t : Triple) → SameMembers g h → HasAlso g g' t
    → HasAlso h h' t → SameMembers g' h'
SameMembers-also t same also also' = record {
  each = λ u. (also_to t same also also' u, also_to t (SameMembers-sym same) also' also u);
}

-- and so do the same triples but one
pub SameMembers-without : {g g' h h' : List Triple} (t : Triple) → SameMembers g h → IsWithout g g' t
    → IsWithout h h' t → SameMembers g' h'
SameMembers-without t same without without' = record {
  each = λ u. (
    λ c. let left = (without.each u).0 c in (without'.each u).1 ((same.each u).0 left.0, left.1),
    λ c. let left = (without'.each u).0 c in (without.each u).1 ((same.each u).1 left.0, left.1),
  );
}

-- a look-up in graphs that are the same gives the same
pub objects_of-same : (g h : Graph) → SameGraph g h → (s p : ℕ) → objects_of g s p ≡ objects_of h s p
objects_of-same g h same s p =
    let one = look g.triples (Out s p) in
    let other = look h.triples (Out s p) in
    let found = SameMembers-filter (λ t. is_touching t (Out s p)) g.triples h.triples same.triples in
    numbers_same g.terms one other found (λ t. t.o)
    ∙ ap (λ terms. in_term_order terms (map (λ t. t.o) other)) same.terms
