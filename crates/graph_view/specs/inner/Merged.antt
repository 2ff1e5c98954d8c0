-- Lists in order that are merged.
use Rattle.std.specs.Prelude.{◌≡◌, List, ◌∷◌, ◌++◌, Contains}
use Rattle.std.specs.declared.cmp.Ordering.{Ordering}
use Rattle.std.specs.declared.cmp.Ordering.TheVariants.{Less}
use Rattle.std.specs.List.Sorted.{IsStrictlySortedBy}
use Rattle.shx_term.specs.InOrder.{in_order}

-- a part of what is left, and an element behind it, were put behind what is done: with whatever comes behind
-- the element, this is how the whole begins
pub record PutsBefore {K : Type 0} (cmp : K → K → Ordering) (x : K) (rest left done new : List K)
    : Type 0 where
  pub front : List K
  pub new_is : new ≡ done ++ front
  pub sorted : IsStrictlySortedBy cmp left
  pub begins : (more : List K) → ((y : K) → Contains more y → cmp x y ≡ Less)
      → front ++ in_order cmp (left ++ more) ≡ in_order cmp (rest ++ x ∷ more)
