-- Two lists with the same images, compared place by place.
use Rattle.std.specs.Prelude.{◌≡◌, ◌+◌, ◌++◌, ◌↔◌, ℕ, Bool, false, IsTrue, List, [], ◌∷◌, Some}
use Rattle.std.specs.Prelude.{map, slice_get, take}
use Rattle.std.specs.Option.{option_map}
use Rattle.std.proofs.Common.{sym, ap, ap₂, ◌∙◌, true≢false}
use Rattle.std.proofs.lemmas.List.{map-append, take_more}
use Rattle.std.proofs.lemmas.Option.{get_or_from_slice_get, slice_get-map, slice_get_within}

module _ {A B C : Type 0} (f : A → C) (g : B → C) (xs : List A) (ys : List B) where
  same_at : (i : ℕ) (x : A) (y : B) → slice_get xs i ≡ Some x → slice_get ys i ≡ Some y
      → map f xs ≡ map g ys → f x ≡ g y
  same_at i x y here there same =
      let at : Some (f x) ≡ Some (g y) =
      ap (option_map f) (sym here) ∙ sym (slice_get-map f xs i) ∙ ap (λ zs. slice_get zs i) same
      ∙ slice_get-map g ys i ∙ ap (option_map g) there in
      cc

  -- where they differ at a place
  pub differ_at : (i : ℕ) (x : A) (y : B) (result : Bool) → slice_get xs i ≡ Some x → slice_get ys i ≡ Some y
      → IsTrue result ↔ (f x ≡ g y) → result ≡ false → IsTrue false ↔ (map f xs ≡ map g ys)
  differ_at i x y result here there told other = (
    λ impossible. absurd (true≢false (sym impossible)),
    λ same. sym other ∙ told.1 (same_at i x y here there same),
  )

  -- where they are the same at one more
  pub same_so_far : (i : ℕ) (x : A) (y : B) → slice_get xs i ≡ Some x → slice_get ys i ≡ Some y → f x ≡ g y
      → map f (take i xs) ≡ map g (take i ys) → map f (take (i + 1) xs) ≡ map g (take (i + 1) ys)
  same_so_far i x y here there one same =
      let first : take (i + 1) xs ≡ take i xs ++ x ∷ [] =
      take_more xs i x (slice_get_within xs i x here)
      ∙ ap (λ z. take i xs ++ z ∷ []) (get_or_from_slice_get xs i x x here) in
      let second : take (i + 1) ys ≡ take i ys ++ y ∷ [] =
      take_more ys i y (slice_get_within ys i y there)
      ∙ ap (λ z. take i ys ++ z ∷ []) (get_or_from_slice_get ys i y y there) in
      ap (map f) first ∙ map-append f (take i xs) (x ∷ [])
      ∙ ap₂ (λ zs z. zs ++ z ∷ []) same one
      ∙ sym (ap (map g) second ∙ map-append g (take i ys) (y ∷ []))
