-- A list that is sorted and then freed of repeats is its elements in order, each once.
use Rattle.std.proofs.Common.{◌≡◌, Bool, true, List}
use Rattle.std.specs.Prelude.{IsPermutation}
use Rattle.std.specs.declared.cmp.Ordering.{Ordering}
use Rattle.std.specs.List.{dedup}
use Rattle.std.specs.List.Sorted.{IsSorted}
use Rattle.std.specs.Ordering.{eq_by_cmp}
use Rattle.std.specs.Cmp.{IsEquivalence, both_ways, eq_by_cmp_equiv}
use Rattle.std.proofs.Common.{subst}
use Rattle.std.proofs.lemmas.Map.Views.{tells_apart}
use Rattle.std.proofs.lemmas.List.Kept.{IsStrictlySortedBy-dedup, Contains-dedup, Contains-from_dedup}
use Rattle.std.proofs.lemmas.List.Sorted.{Contains-permutation, IsPermutation-sym}
use Rattle.shx_term.specs.InOrder.{IsExactOrder, in_order}
use Rattle.shx_term.proofs.InOrderLemmas.{in_order_is}

module _ {K : Type 0} (cmp : K → K → Ordering) (order : IsExactOrder cmp) (same : K → K → Bool)
    (laws : IsEquivalence same) (exact : (x y : K) → same x y ≡ true → x ≡ y) where
  -- elements tie where they are equal
  same-tied : (x y : K) → same x y ≡ eq_by_cmp cmp x y
  same-tied x y =
      both_ways (same x y) (eq_by_cmp cmp x y)
      (λ h. subst (λ z. eq_by_cmp cmp x z ≡ true) (exact x y h) ((eq_by_cmp_equiv order.total).refl x))
      (λ h. subst (λ z. same x z ≡ true) (tells_apart order.exact x y h) (laws.refl x))

  pub dedup_in_order : (xs sorted : List K) → IsPermutation xs sorted → IsSorted cmp sorted
      → dedup same sorted ≡ in_order cmp xs
  dedup_in_order xs sorted permuted ascends =
      in_order_is cmp order xs (dedup same sorted) (record {
        sorted = IsStrictlySortedBy-dedup order.total same-tied sorted ascends;
        each = λ y. (
          λ c. Contains-permutation sorted xs y (IsPermutation-sym xs sorted permuted)
              (Contains-from_dedup same sorted y c),
          λ c. Contains-dedup laws exact sorted y (Contains-permutation xs sorted y permuted c),
        );
      })
