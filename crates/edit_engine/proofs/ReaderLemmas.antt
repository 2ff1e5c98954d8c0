-- Readers in order: which targets and which pairs are among them, each once.
use Rattle.std.specs.Prelude.{◌≡◌, ℕ, suc, zero, ◌<◌, Bool, true, nat_eq, List, [], ◌∷◌}
use Rattle.std.specs.Prelude.{flat_map, length, Contains, ◌↔◌}
use Rattle.std.specs.Cmp.{IsEquivalence, nat_eq_equiv, eq_by_cmp_equiv}
use Rattle.std.specs.List.{IsDistinct}
use Rattle.std.specs.List.Sorted.{IsStrictlySortedBy}
use Rattle.std.specs.Ordering.{eq_by_cmp}
use Rattle.std.proofs.Common.{refl, sym, ap, ◌∙◌, subst, true≢false, arith}
use Rattle.std.proofs.lemmas.Map.Keys.{IsDistinct-from_sorted, IsDistinct-tail, IsDistinct-cons}
use Rattle.std.proofs.lemmas.Map.Keys.{apart_from_distinct}
use Rattle.std.proofs.lemmas.Map.Views.{exact_unsigned_eq}
use Rattle.shx_term.proofs.MemberLemmas.{Contains-flat_map, Contains-from_flat_map, Contains-one}
use Rattle.shx_term.proofs.MemberLemmas.{none_in_empty}
use Rattle.graph_view.proofs.PatchedLemmas.{IsDistinct-append}
use Rattle.comp_core.specs.declared.pair.Pair.{Pair}
use Rattle.comp_core.specs.Pairs.{same_pair, same_pair_equiv, same_pair_exact}
use Rattle.read_records.specs.declared.reader.Reader.{Reader}
use Rattle.read_records.specs.declared.reader.Reader.TheVariants.{OfPair, OfTarget}
use Rattle.read_records.specs.Reader.{reader_cmp}
use Rattle.read_records.specs.inner.ReaderLaws.{reader_cmp_total}
use Rattle.edit_engine.specs.inner.Parts.{reader_pairs, reader_targets, targets_among}
use Rattle.edit_engine.proofs.RenewedPairLemmas.{none_apart}

-- ---- parts of distinct things

pub IsDistinct-one : {X : Type 0} (same : X → X → Bool) (x : X) → IsDistinct same (x ∷ [])
IsDistinct-one same x = IsDistinct-cons same x [] tt (none_apart same)

-- the first of distinct things is none of the others
pub head_absent : {R : Type 0} (tie : R → R → Bool) → IsEquivalence tie → (r : R) (rs : List R)
    → IsDistinct tie (r ∷ rs) → Contains rs r → ⊥
head_absent tie laws r rs once c =
    let inside : suc c.0 < length (r ∷ rs) = omega (arith, c.1) in
    let first : zero < suc c.0 = omega arith in
    let apart = apart_from_distinct tie (r ∷ rs) zero (suc c.0) r once first inside in
    true≢false (sym (laws.refl r) ∙ ap (tie r) (sym c.2) ∙ apart)

-- what is made of distinct things is distinct where it tells what it is made of
module _ {R X : Type 0} (tie : R → R → Bool) (tied : IsEquivalence tie) (same : X → X → Bool)
    (laws : IsEquivalence same) (exact : (x y : X) → same x y ≡ true → x ≡ y) (f : R → List X) (back : X → R)
    (from : (r : R) (x : X) → Contains (f r) x → r ≡ back x) (parts : (r : R) → IsDistinct same (f r)) where
  IsDistinct-flat_map : (rs : List R) → IsDistinct tie rs → IsDistinct same (flat_map f rs)
  IsDistinct-flat_map [] once = none_apart same
  IsDistinct-flat_map (r ∷ rs) once =
      IsDistinct-append same laws exact (f r) (flat_map f rs) (parts r)
      (IsDistinct-flat_map rs (IsDistinct-tail tie r rs once))
      (λ x c d.
      let at = Contains-from_flat_map f rs x d in
      let same_one = from at.0 x at.2 ∙ sym (from r x c) in
      head_absent tie tied r rs once (subst (Contains rs) same_one at.1))

-- ---- targets and pairs

of_target : (r : Reader) (n : ℕ) → Contains (reader_targets r) n → r ≡ OfTarget n
of_target (OfTarget m) n c = ap OfTarget (sym ((Contains-one m n).0 c))
of_target (OfPair p) n c = absurd (none_in_empty n c)

of_pair : (r : Reader) (p : Pair) → Contains (reader_pairs r) p → r ≡ OfPair p
of_pair (OfTarget m) p c = absurd (none_in_empty p c)
of_pair (OfPair q) p c = ap OfPair (sym ((Contains-one q p).0 c))

one_target : (r : Reader) → IsDistinct nat_eq (reader_targets r)
one_target (OfTarget n) = IsDistinct-one nat_eq n
one_target (OfPair p) = none_apart nat_eq

one_pair : (r : Reader) → IsDistinct same_pair (reader_pairs r)
one_pair (OfTarget n) = none_apart same_pair
one_pair (OfPair p) = IsDistinct-one same_pair p

module _ (rs : List Reader) where
  pub Contains-targets_among : (n : ℕ) → Contains (targets_among rs) n ↔ Contains rs (OfTarget n)
  Contains-targets_among n = (
    λ c.
        let at = Contains-from_flat_map reader_targets rs n c in
        subst (Contains rs) (of_target at.0 n at.2) at.1,
    λ c. Contains-flat_map reader_targets rs (OfTarget n) n c ((Contains-one n n).1 refl),
  )

  pub Contains-pairs_among : (p : Pair) → Contains (flat_map reader_pairs rs) p ↔ Contains rs (OfPair p)
  Contains-pairs_among p = (
    λ c.
        let at = Contains-from_flat_map reader_pairs rs p c in
        subst (Contains rs) (of_pair at.0 p at.2) at.1,
    λ c. Contains-flat_map reader_pairs rs (OfPair p) p c ((Contains-one p p).1 refl),
  )

  module _ (sorted : IsStrictlySortedBy reader_cmp rs) where
    once : IsDistinct (eq_by_cmp reader_cmp) rs
    once = IsDistinct-from_sorted reader_cmp rs sorted

    pub targets_distinct : IsDistinct nat_eq (targets_among rs)
    targets_distinct =
        IsDistinct-flat_map (eq_by_cmp reader_cmp) (eq_by_cmp_equiv reader_cmp_total) nat_eq nat_eq_equiv
        exact_unsigned_eq reader_targets OfTarget of_target one_target rs once

    pub pairs_distinct : IsDistinct same_pair (flat_map reader_pairs rs)
    pairs_distinct =
        IsDistinct-flat_map (eq_by_cmp reader_cmp) (eq_by_cmp_equiv reader_cmp_total) same_pair
        same_pair_equiv same_pair_exact reader_pairs OfPair of_pair one_pair rs once
