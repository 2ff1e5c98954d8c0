-- Loops that stop at the first of something: what is said of a list is said of what is left of it.
use Rattle.std.specs.Prelude.{◌≡◌, ℕ, ◌+◌, ◌<◌, ◌≤◌, List, [], ◌++◌, drop, flat_map, length, map}
use Rattle.std.specs.Prelude.{Option, Some}
use Rattle.std.specs.Option.{option_or}
use Rattle.std.proofs.Common.{ap, ◌∙◌, get_or, sym}
use Rattle.std.proofs.lemmas.List.{at_drop_all, at_drop_more}
use Rattle.shape_decl.proofs.LeftLemmas.{IsLeft}
use Rattle.shape_check.specs.Faults.{first}
use Rattle.shape_check.proofs.FirstLemmas.{empty_from_first, first-append}

-- a loop that looks in turn at what f makes of each element, as h tells it
module _ {X Y A : Type 0} (f : Y → List A) (h : X → Y) (xs : List X) (i : ℕ) where
  abbrev pub first_of : List X → Option A
  first_of xs = first (flat_map f (map h xs))

  -- it finds the first where one element has one
  pub first_found : (x : X) (a : A) → IsLeft first_of xs i → i < length xs → x ≡ get_or xs i x
      → Some a ≡ first (f (h x)) → first (flat_map f (map h xs)) ≡ Some a
  first_found x a left inside item found =
      left.same
      ∙ at_drop_more first_of xs i x inside
      ∙ ap (λ y. first (f (h y) ++ flat_map f (map h (drop (i + 1) xs)))) (sym item)
      ∙ first-append (f (h x)) (flat_map f (map h (drop (i + 1) xs)))
      ∙ ap (λ o. option_or o (first_of (drop (i + 1) xs))) (sym found)

  -- and none where it came to the end
  pub none_found : IsLeft first_of xs i → length xs ≤ i → flat_map f (map h xs) ≡ []
  none_found left past = empty_from_first (flat_map f (map h xs)) (left.same ∙ at_drop_all first_of xs i past)
