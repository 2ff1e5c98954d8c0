-- The keys that triples touch, and members that are sorted and kept once.
use Rattle.std.specs.Prelude.{◌≡◌, Bool, true, List, [], ◌∷◌, ◌++◌, Contains, ◌↔◌, IsPermutation}
use Rattle.std.specs.Cmp.{IsEquivalence}
use Rattle.std.specs.List.{dedup}
use Rattle.std.specs.List.Sorted.{IsSorted}
use Rattle.std.specs.declared.cmp.Ordering.{Ordering}
use Rattle.std.proofs.Common.{refl, sym, subst, inl, inr}
use Rattle.std.proofs.lemmas.List.Elements.{Contains-append_left, Contains-append_right}
use Rattle.std.proofs.lemmas.List.Elements.{Contains-append_cases}
use Rattle.shx_term.specs.InOrder.{IsExactOrder, Lists}
use Rattle.shx_term.specs.declared.triple.Triple.{Triple}
use Rattle.shx_term.proofs.InOrderLemmas.{in_order_lists}
use Rattle.shx_term.proofs.MemberLemmas.{none_in_empty, Contains-one}
use Rattle.shx_term.proofs.SortLemmas.{dedup_in_order}
use Rattle.graph_view.specs.declared.key.Key.{Key}
use Rattle.graph_view.specs.Key.{Touches, key_cmp, same_key}
use Rattle.graph_view.specs.inner.KeyLaws.{key_cmp_total, same_key_equiv, same_key_exact}
use Rattle.read_records.proofs.ReadingLemmas.{key_cmp_exact}
use Rattle.read_records.specs.inner.Touched.{IsTouchedKey}

-- ---- what is listed once it is sorted, and each is kept once

module _ {X : Type 0} (cmp : X → X → Ordering) (order : IsExactOrder cmp) (same : X → X → Bool)
    (laws : IsEquivalence same) (exact : (x y : X) → same x y ≡ true → x ≡ y)
  where
    pub Lists-sorted : {P : X → Type 0} (found sorted : List X) → ((x : X) → Contains found x ↔ P x)
        → IsPermutation found sorted → IsSorted cmp sorted → Lists cmp P (dedup same sorted)
    Lists-sorted {P} found sorted are permuted ascends =
        let lists = in_order_lists cmp order found in
        subst (Lists cmp P) (sym (dedup_in_order cmp order same laws exact found sorted permuted ascends))
        (record {
          sorted = lists.sorted;
          each = λ x. (λ c. (are x).0 ((lists.each x).0 c), λ h. (lists.each x).1 ((are x).1 h));
        })

-- ---- the keys that triples touch

-- the keys are those that one of the triples touches
pub record AreKeysOf (ts : List Triple) (keys : List Key) : Type 0 where
  pub each : (key : Key) → Contains keys key ↔ IsTouchedKey ts key

pub AreKeysOf-none : AreKeysOf [] []
AreKeysOf-none = record {
  each = λ key. (λ c. absurd (none_in_empty key c), λ h. absurd (none_in_empty h.triple h.changes));
}

-- one triple more
pub AreKeysOf-more : (ts : List Triple) (t : Triple) (old found : List Key)
    → ((key : Key) → Contains found key ↔ Touches t key) → AreKeysOf ts old
    → AreKeysOf (ts ++ t ∷ []) (old ++ found)
AreKeysOf-more ts t old found own before = record {
  each = λ key. (
    λ c. elim (Contains-append_cases old found key c) [
      | inl d ↦
          let h = (before.each key).0 d in
          record {
            triple = h.triple;
            changes = Contains-append_left ts (t ∷ []) h.triple h.changes;
            touches = h.touches;
          }
      | inr d ↦ record {
        triple = t;
        changes = Contains-append_right ts (t ∷ []) t ((Contains-one t t).1 refl);
        touches = (own key).0 d;
      }
    ],
    λ h. elim (Contains-append_cases ts (t ∷ []) h.triple h.changes) [
      | inl c ↦
          Contains-append_left old found key
          ((before.each key).1 (record { triple = h.triple; changes = c; touches = h.touches }))
      | inr c ↦
          let same = (Contains-one t h.triple).0 c in
          Contains-append_right old found key ((own key).1 (subst (λ u. Touches u key) same h.touches))
    ],
  );
}

key_order : IsExactOrder key_cmp
key_order = record { total = key_cmp_total; exact = key_cmp_exact }

pub Lists-keys : (ts : List Triple) (found sorted : List Key) → AreKeysOf ts found
    → IsPermutation found sorted → IsSorted key_cmp sorted
    → Lists key_cmp (IsTouchedKey ts) (dedup same_key sorted)
Lists-keys ts found sorted are =
    Lists-sorted key_cmp key_order same_key same_key_equiv same_key_exact found sorted are.each
