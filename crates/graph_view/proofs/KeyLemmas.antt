-- A test that decides whether a triple touches a key, and what looking a key up finds.
use Rattle.std.specs.Prelude.{◌≡◌, ℕ, true, false, ◌&&◌, ◌==◌, List, [], ◌∷◌, Contains, ◌↔◌}
use Rattle.std.proofs.Common.{refl, sym, ap, subst, inl, inr, true≢false}
use Rattle.std.specs.Cmp.{first_so, second_so}
use Rattle.std.proofs.lemmas.Bool.{eqb-true, eq-eqb, and_from}
use Rattle.shx_term.specs.declared.triple.Triple.{Triple}
use Rattle.shx_term.proofs.MemberLemmas.{Contains-head, Contains-tail, Contains-cases, Contains-one}
use Rattle.shx_term.proofs.MemberLemmas.{Contains-filter, Contains-from_filter}
use Rattle.graph_view.specs.declared.key.Key.{Key}
use Rattle.graph_view.specs.declared.key.Key.TheVariants.{Out, In, Subject, Predicate, Answer}
use Rattle.graph_view.specs.Key.{Touches, is_touching, keys_of, look}

both_equal : (a b c d : ℕ) → ((a == b) && (c == d) ≡ true) ↔ ((a ≡ b) × (c ≡ d))
both_equal a b c d = (
  λ h. (eqb-true a b (first_so (a == b) (c == d) h), eqb-true c d (second_so (a == b) (c == d) h)),
  λ e. and_from (a == b) (c == d) (eq-eqb a b e.0) (eq-eqb c d e.1),
)

-- the test decides
pub touching : (t : Triple) (key : Key) → (is_touching t key ≡ true) ↔ Touches t key
touching t (Out s p) = both_equal t.s s t.p p
touching t (In p o) = both_equal t.p p t.o o
touching t (Subject s) = (eqb-true t.s s, eq-eqb t.s s)
touching t (Predicate p) = (eqb-true t.p p, eq-eqb t.p p)
touching t (Answer s n) = (λ h. true≢false (sym h), λ h. absurd h)

pub Contains-look : (triples : List Triple) (key : Key) (t : Triple)
    → Contains (look triples key) t ↔ (Contains triples t × Touches t key)
Contains-look triples key t = (
  λ c.
      let kept = Contains-from_filter (λ u. is_touching u key) triples t c in
      (kept.0, (touching t key).0 kept.1),
  λ held. Contains-filter (λ u. is_touching u key) triples t held.0 ((touching t key).1 held.1),
)

-- the keys of a triple are those that it touches
module _ (t : Triple) where
  touches_own : (key : Key) → Contains (keys_of t) key → Touches t key
  touches_own key c =
      elim (Contains-cases (Out t.s t.p) key (In t.p t.o ∷ Subject t.s ∷ Predicate t.p ∷ []) c) [
        | inl e ↦ subst (Touches t) (sym e) (refl, refl)
        | inr d ↦ elim (Contains-cases (In t.p t.o) key (Subject t.s ∷ Predicate t.p ∷ []) d) [
          | inl e ↦ subst (Touches t) (sym e) (refl, refl)
          | inr d ↦ elim (Contains-cases (Subject t.s) key (Predicate t.p ∷ []) d) [
            | inl e ↦ subst (Touches t) (sym e) refl
            | inr d ↦ subst (Touches t) (sym ((Contains-one (Predicate t.p) key).0 d)) refl
          ]
        ]
      ]

  is_own : (key : Key) → Touches t key → Contains (keys_of t) key
  is_own (Out s p) h =
      subst (Contains (keys_of t)) (λ i. Out (h.0 i) (h.1 i))
      (Contains-head (Out t.s t.p) (In t.p t.o ∷ Subject t.s ∷ Predicate t.p ∷ []))
  is_own (In p o) h =
      subst (Contains (keys_of t)) (λ i. In (h.0 i) (h.1 i))
      (Contains-tail (Out t.s t.p) (In t.p t.o) (In t.p t.o ∷ Subject t.s ∷ Predicate t.p ∷ [])
      (Contains-head (In t.p t.o) (Subject t.s ∷ Predicate t.p ∷ [])))
  is_own (Subject s) h =
      subst (Contains (keys_of t)) (ap Subject h)
      (Contains-tail (Out t.s t.p) (Subject t.s) (In t.p t.o ∷ Subject t.s ∷ Predicate t.p ∷ [])
      (Contains-tail (In t.p t.o) (Subject t.s) (Subject t.s ∷ Predicate t.p ∷ [])
      (Contains-head (Subject t.s) (Predicate t.p ∷ []))))
  is_own (Predicate p) h =
      subst (Contains (keys_of t)) (ap Predicate h)
      (Contains-tail (Out t.s t.p) (Predicate t.p) (In t.p t.o ∷ Subject t.s ∷ Predicate t.p ∷ [])
      (Contains-tail (In t.p t.o) (Predicate t.p) (Subject t.s ∷ Predicate t.p ∷ [])
      (Contains-tail (Subject t.s) (Predicate t.p) (Predicate t.p ∷ [])
      (Contains-head (Predicate t.p) []))))
  is_own (Answer s n) h = absurd h

  pub Contains-keys_of : (key : Key) → Contains (keys_of t) key ↔ Touches t key
  Contains-keys_of key = (touches_own key, is_own key)
