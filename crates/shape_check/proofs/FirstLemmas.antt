-- The first of a list that is made of others.
use Rattle.std.specs.Prelude.{◌≡◌, Bool, true, false, List, [], ◌∷◌, ◌++◌, filter, find, map, Some, None}
use Rattle.std.specs.Prelude.{if◌then◌else◌}
use Rattle.std.specs.Option.{option_map, option_or}
use Rattle.std.proofs.Common.{refl}
use Rattle.shape_check.specs.Faults.{first}

pub first-append : {X : Type 0} → (xs ys : List X) → first (xs ++ ys) ≡ option_or (first xs) (first ys)
first-append [] ys = refl
first-append (x ∷ xs) ys = refl

pub first-filter : {X : Type 0} (p : X → Bool) (xs : List X) → first (filter p xs) ≡ find p xs
first-filter p [] = refl
first-filter p (x ∷ xs) =
    elim (p x) as
    (λ b. first (if b then x ∷ filter p xs else filter p xs) ≡ (if b then Some x else find p xs))
    [ true ↦ refl | false ↦ first-filter p xs ]

pub first-map : {X Y : Type 0} (f : X → Y) (xs : List X) → first (map f xs) ≡ option_map f (first xs)
first-map f [] = refl
first-map f (x ∷ xs) = refl

pub empty_from_first : {X : Type 0} (xs : List X) → first xs ≡ None → xs ≡ []
empty_from_first [] h = refl
empty_from_first (x ∷ xs) h = cc
