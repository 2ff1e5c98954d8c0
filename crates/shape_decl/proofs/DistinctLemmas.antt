-- What stands in a strict order is distinct.
use Rattle.std.specs.Prelude.{◌≡◌, Bool, true, false, List}
use Rattle.std.specs.declared.cmp.Ordering.{Ordering}
use Rattle.std.specs.declared.cmp.Ordering.TheVariants.{Less}
use Rattle.std.specs.Cmp.{IsTotalOrder, eq_by_cmp_equiv}
use Rattle.std.specs.List.{IsDistinct}
use Rattle.std.specs.List.Sorted.{IsStrictlySortedBy}
use Rattle.std.specs.Ordering.{eq_by_cmp}
use Rattle.std.proofs.Common.{refl, subst, get_or}
use Rattle.std.proofs.lemmas.Map.Keys.{IsDistinct-from_apart, Less-from_sorted}

module _ {X : Type 0} (cmp : X → X → Ordering) (total : IsTotalOrder cmp) (same : X → X → Bool)
    (exact : (x y : X) → same x y ≡ true → x ≡ y) where
  -- one that is below another is not the same
  apart : (x y : X) → cmp x y ≡ Less → same x y ≡ false
  apart x y below =
      elim (same x y) as (λ b. same x y ≡ b → b ≡ false) [
        | true ↦ λ h.
            let tied = (eq_by_cmp_equiv total).refl x in
            let alike = subst (λ z. eq_by_cmp cmp x z ≡ true) (exact x y h) tied in
            cc
        | false ↦ λ _. refl
      ] refl

  pub distinct_in_order : (xs : List X) → IsStrictlySortedBy cmp xs → IsDistinct same xs
  distinct_in_order xs sorted =
      IsDistinct-from_apart same xs (λ i j d below inside.
      apart (get_or xs i d) (get_or xs j d) (Less-from_sorted cmp xs i j d sorted below inside))
