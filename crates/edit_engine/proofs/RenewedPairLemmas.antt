-- Pairs of shapes and their target nodes: their members, and the difference of two such lists of pairs.
use Rattle.std.specs.Prelude.{◌≡◌, ℕ, Bool, true, false, nat_eq, ◌&&◌, ◌==◌, List, [], ◌∷◌, ◌++◌, map}
use Rattle.std.specs.Prelude.{flat_map, Contains, ◌↔◌, ◌⊎◌}
use Rattle.std.specs.Bool.{Decides}
use Rattle.std.specs.List.{IsDistinct, AllByRecursion}
use Rattle.std.proofs.Common.{refl, sym, ap, ◌∙◌, subst, inl, inr, true≢false}
use Rattle.std.proofs.lemmas.List.Elements.{Contains-append_left, Contains-append_right}
use Rattle.std.proofs.lemmas.List.Elements.{Contains-append_cases}
use Rattle.std.proofs.lemmas.Map.Keys.{IsDistinct-head, IsDistinct-tail, IsDistinct-cons}
use Rattle.shx_term.specs.Members.{Adds}
use Rattle.shx_term.proofs.MemberLemmas.{Contains-flat_map, Contains-from_flat_map, Contains-map}
use Rattle.shx_term.proofs.MemberLemmas.{Contains-from_map, Contains-one, none_in_empty}
use Rattle.graph_view.proofs.PatchedLemmas.{IsDistinct-append}
use Rattle.comp_core.specs.declared.pair.Pair.{Pair}
use Rattle.comp_core.specs.Pairs.{same_pair, same_pair_equiv, same_pair_exact}
use Rattle.comp_core.proofs.MemberTestLemmas.{among_decides}
use Rattle.shape_eval.specs.Report.{at_shape}
use Rattle.edit_engine.specs.Renewal.{IsDifference}

-- each of some shapes with each of its nodes
abbrev pub pairs_by : (ℕ → List ℕ) → List ℕ → List Pair
pairs_by f ns = flat_map (λ n. map (at_shape n) (f n)) ns

-- ---- members

pub Contains-at_shape : (n : ℕ) (nodes : List ℕ) (p : Pair)
    → Contains (map (at_shape n) nodes) p ↔ ((p.shape ≡ n) × Contains nodes p.node)
Contains-at_shape n nodes p = (
  λ c.
      let at = Contains-from_map (at_shape n) nodes p c in
      (ap (λ (q : Pair). q.shape) at.2, subst (Contains nodes) (sym (ap (λ (q : Pair). q.node) at.2)) at.1),
  λ h.
      subst (λ m. Contains (map (at_shape m) nodes) p) h.0
      (Contains-map (at_shape p.shape) nodes p.node h.1),
)

pub Contains-pairs : (f : ℕ → List ℕ) (ns : List ℕ) (p : Pair)
    → Contains (pairs_by f ns) p ↔ (Contains ns p.shape × Contains (f p.shape) p.node)
Contains-pairs f ns p =
    let part = λ (n : ℕ). map (at_shape n) (f n) in (
      λ c.
          let at = Contains-from_flat_map part ns p c in
          let has = (Contains-at_shape at.0 (f at.0) p).0 at.2 in
          (subst (Contains ns) (sym has.0) at.1, subst (λ n. Contains (f n) p.node) (sym has.0) has.1),
      λ h.
          Contains-flat_map part ns p.shape p h.0
          ((Contains-at_shape p.shape (f p.shape) p).1 (refl, h.1)),
    )

-- a number is among others or it is not
pub among_or_not : (n : ℕ) (ns : List ℕ) → Contains ns n ⊎ (Contains ns n → ⊥)
among_or_not n ns = by_test _ _ (among_decides n ns)
  where
    by_test : (b : Bool) (P : Type 0) → Decides b P → P ⊎ (P → ⊥)
    by_test true P decides = inl (decides.0 refl)
    by_test false P decides = inr (λ p. true≢false (sym (decides.1 p)))

-- ---- pairs that are apart

and_false : (b : Bool) → b && false ≡ false
and_false true = refl
and_false false = refl

pub none_apart : {X : Type 0} (same : X → X → Bool) → IsDistinct same []
unfolding IsDistinct
none_apart same = tt

-- what is made of distinct things is distinct where it is told apart
module _ {X Y : Type 0} (same : X → X → Bool) (tie : Y → Y → Bool) (f : X → Y)
    (told : (x y : X) → same x y ≡ false → tie (f x) (f y) ≡ false) where
  apart_mapped : (x : X) (ys : List X) → AllByRecursion (λ y. same x y ≡ false) ys
      → AllByRecursion (λ z. tie (f x) z ≡ false) (map f ys)
  apart_mapped x [] apart = tt
  apart_mapped x (y ∷ ys) apart = (told x y apart.0, apart_mapped x ys apart.1)

  pub IsDistinct-mapped : (xs : List X) → IsDistinct same xs → IsDistinct tie (map f xs)
  IsDistinct-mapped [] once = none_apart tie
  IsDistinct-mapped (x ∷ xs) once =
      IsDistinct-cons tie (f x) (map f xs) (apart_mapped x xs (IsDistinct-head same x xs once))
      (IsDistinct-mapped xs (IsDistinct-tail same x xs once))

pub IsDistinct-at_shape : (n : ℕ) (nodes : List ℕ) → IsDistinct nat_eq nodes
    → IsDistinct same_pair (map (at_shape n) nodes)
IsDistinct-at_shape n =
    IsDistinct-mapped nat_eq same_pair (at_shape n)
    (λ x y apart. ap (λ b. (n == n) && b) apart ∙ and_false (n == n))

-- ---- the difference of two lists of pairs

module _ (f g : ℕ → List ℕ) where
  -- the node is one by f and none by g
  pub record IsOnlyFirst (p : Pair) : Type 0 where
    pub first : Contains (f p.shape) p.node
    pub not_second : Contains (g p.shape) p.node → ⊥

  -- these are the pairs of some shapes by f that are none by g
  pub record AreApart (ns : List ℕ) (xs : List Pair) : Type 0 where
    pub each : (p : Pair) → Contains xs p ↔ (Contains ns p.shape × IsOnlyFirst p)

  pub AreApart-from : (ns : List ℕ) (xs : List Pair)
      → IsDifference same_pair (pairs_by f ns) (pairs_by g ns) xs → AreApart ns xs
  AreApart-from ns xs is = record {
    each = λ p.
        let one = Contains-pairs f ns p in
        let other = Contains-pairs g ns p in (
          λ c.
              let h = (is.each p).0 c in
              let at = one.0 h.0 in
              (at.0, record { first = at.1; not_second = λ d. h.1 (other.1 (at.0, d)) }),
          λ h. (is.each p).1 (one.1 (h.0, h.1.first), λ c. h.1.not_second (other.0 c).1),
        );
  }

  pub AreApart-difference : (ns : List ℕ) (xs : List Pair) → IsDistinct same_pair xs → AreApart ns xs
      → IsDifference same_pair (pairs_by f ns) (pairs_by g ns) xs
  AreApart-difference ns xs once are = record {
    once = once;
    each = λ p.
        let one = Contains-pairs f ns p in
        let other = Contains-pairs g ns p in (
          λ c.
              let h = (are.each p).0 c in
              (one.1 (h.0, h.1.first), λ d. h.1.not_second (other.0 d).1),
          λ h.
              let at = one.0 h.0 in
              (are.each p).1
              (at.0, record { first = at.1; not_second = λ d. h.1 (other.1 (at.0, d)) }),
        );
  }

  -- of no shape
  pub AreApart-none : AreApart [] []
  AreApart-none = record {
    each = λ p. (λ c. absurd (none_in_empty p c), λ h. absurd (none_in_empty p.shape h.0));
  }

  -- of one shape more
  pub AreApart-more : (ns : List ℕ) (n : ℕ) (old new : List Pair) (nodes : List ℕ)
      → IsDifference nat_eq (f n) (g n) nodes → Adds old new (map (at_shape n) nodes) → AreApart ns old
      → AreApart (ns ++ n ∷ []) new
  AreApart-more ns n old new nodes is adds before = record {
    each = λ p.
        let mapped = Contains-at_shape n nodes p in (
          λ c. elim ((adds.each p).0 c) [
            | inl d ↦
                let h = (before.each p).0 d in
                (Contains-append_left ns (n ∷ []) p.shape h.0, h.1)
            | inr d ↦
                let at = mapped.0 d in
                let h = (is.each p.node).0 at.1 in (
                  Contains-append_right ns (n ∷ []) p.shape ((Contains-one n p.shape).1 at.0),
                  record {
                    first = subst (λ m. Contains (f m) p.node) (sym at.0) h.0;
                    not_second = λ e. h.1 (subst (λ m. Contains (g m) p.node) at.0 e);
                  },
                )
          ],
          λ h. (adds.each p).1 (elim (Contains-append_cases ns (n ∷ []) p.shape h.0) [
            | inl c ↦ inl ((before.each p).1 (c, h.1))
            | inr c ↦
                let e = (Contains-one n p.shape).0 c in
                inr (mapped.1 (
                  e,
                  (is.each p.node).1 (
                    subst (λ m. Contains (f m) p.node) e h.1.first,
                    λ d. h.1.not_second (subst (λ m. Contains (g m) p.node) (sym e) d),
                  ),
                ))
          ]),
        );
  }

  -- a shape that was none of them has other pairs
  pub IsDistinct-more : (ns : List ℕ) (n : ℕ) (old : List Pair) (nodes : List ℕ) → (Contains ns n → ⊥)
      → IsDistinct nat_eq nodes → AreApart ns old → IsDistinct same_pair old
      → IsDistinct same_pair (old ++ map (at_shape n) nodes)
  IsDistinct-more ns n old nodes new once before apart =
      IsDistinct-append same_pair same_pair_equiv same_pair_exact old (map (at_shape n) nodes) apart
      (IsDistinct-at_shape n nodes once) (λ p c d.
      new (subst (Contains ns) ((Contains-at_shape n nodes p).0 d).0 ((before.each p).0 c).0))

  -- other shapes that have the same nodes by both make no difference
  pub AreApart-of_all : (ns all : List ℕ) (xs : List Pair) → ((n : ℕ) → Contains ns n → Contains all n)
      → ((n : ℕ) → Contains all n → (Contains ns n → ⊥) → f n ≡ g n) → AreApart ns xs → AreApart all xs
  AreApart-of_all ns all xs within same are = record {
    each = λ p. (
      λ c. let h = (are.each p).0 c in (within p.shape h.0, h.1),
      λ h. (are.each p).1 (elim (among_or_not p.shape ns) [
        | inl c ↦ (c, h.1)
        | inr no_member ↦
            let e = same p.shape h.0 no_member in
            absurd (h.1.not_second (subst (λ xs. Contains xs p.node) e h.1.first))
      ]),
    );
  }
