-- Lists in an order, each element once: for any order that is total and tells all elements apart.
use Rattle.std.specs.Prelude.{List, map, Contains, ◌↔◌}
use Rattle.std.specs.declared.cmp.Ordering.{Ordering}
use Rattle.std.specs.Cmp.{IsTotalOrder}
use Rattle.std.specs.List.Sorted.{IsStrictlySortedBy}
use Rattle.std.specs.FinMap as ordered_map
use Rattle.std.proofs.lemmas.Map.Lookups.{CmpEqualImpliesEq}

-- an order that is total, in which elements that compare as equal are one
pub record IsExactOrder {K : Type 0} (cmp : K → K → Ordering) : Type 0 where
  pub total : IsTotalOrder cmp
  pub exact : CmpEqualImpliesEq cmp

-- xs has each element of which P holds once, and no other, in the order
pub record Lists {K : Type 0} (cmp : K → K → Ordering) (P : K → Type 0) (xs : List K) : Type 0 where
  pub sorted : IsStrictlySortedBy cmp xs
  pub each : (y : K) → Contains xs y ↔ P y

abbrev pub keyed : {K : Type 0} → K → K × Unit {0}
keyed x = (x, tt)

-- the elements of a list in the order, each once: the keys of a finite map that is kept in that order
abbrev pub in_order : {K : Type 0} → (K → K → Ordering) → List K → List K
in_order cmp xs = ordered_map.keys {R = cmp} (ordered_map.from_entries (map keyed xs))
