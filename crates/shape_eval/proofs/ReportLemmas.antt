-- A list that is made part by part is empty exactly where each part is.
use Rattle.std.specs.Prelude.{◌≡◌, List, [], ◌∷◌, ◌++◌, flat_map, All}
use Rattle.std.proofs.Common.{refl}
use Rattle.std.proofs.lemmas.List.Elements.{All-cons, All-head, All-nil, All-tail}

-- two lists that make an empty one are empty
both_empty : {Y : Type 0} (xs ys : List Y) → xs ++ ys ≡ [] → (xs ≡ []) × (ys ≡ [])
both_empty [] ys none = (refl, none)
both_empty (x ∷ xs) ys none = absurd (never none) where
  never : x ∷ (xs ++ ys) ≡ [] → ⊥
  never none = cc

module _ {X Y : Type 0} (f : X → List Y) where
  pub parts_empty : (xs : List X) → flat_map f xs ≡ [] → All (λ x. f x ≡ []) xs
  parts_empty [] none = All-nil (λ x. f x ≡ [])
  parts_empty (x ∷ xs) none =
      let both = both_empty (f x) (flat_map f xs) none in
      All-cons (λ x. f x ≡ []) x xs both.0 (parts_empty xs both.1)

  pub all_empty : (xs : List X) → All (λ x. f x ≡ []) xs → flat_map f xs ≡ []
  all_empty [] each = refl
  all_empty (x ∷ xs) each =
      rw (All-head (λ x. f x ≡ []) x xs each) (all_empty xs (All-tail (λ x. f x ≡ []) x xs each))
