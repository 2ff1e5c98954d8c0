-- Loops that note what they read, whatever keeps the notes.
use Rattle.std.proofs.Common.{◌≡◌, ℕ, ◌+◌, ◌<◌, List, [], ◌∷◌, ◌++◌, length, get_or, take}
use Rattle.std.proofs.Common.{sym, subst, ap, ◌∙◌, append-nil}
use Rattle.std.specs.Prelude.{map, flat_map}
use Rattle.std.proofs.lemmas.Grind.{flat_map-append}
use Rattle.std.proofs.lemmas.List.{take_more}
use Rattle.std.proofs.lemmas.List.Folds.{flat_map-map}
use Rattle.graph_view.specs.declared.key.Key.{Key}
use Rattle.graph_view.specs.Notes.{IsNoting}

module _ {N : Type 0} {notes : N → N → List Key → Type 0} (laws : IsNoting notes) where
  -- a step of a loop that notes what is read of one element after the other
  pub noted_more : {A : Type 0} (f : A → List Key) (xs : List A) (i : ℕ) (d : A) → i < length xs
      → {old mid new : N} → notes old mid (flat_map f (take i xs)) → notes mid new (f (get_or xs i d))
      → notes old new (flat_map f (take (i + 1) xs))
  noted_more f xs i d inside {old} {mid} {new} before step =
      let x = get_or xs i d in
      let all : flat_map f (take (i + 1) xs) ≡ flat_map f (take i xs) ++ f x =
      ap (flat_map f) (take_more xs i d inside)
      ∙ flat_map-append f (take i xs) (x ∷ [])
      ∙ ap (λ ks. flat_map f (take i xs) ++ ks) (append-nil (f x)) in
      subst (notes old new) (sym all) (laws.then (flat_map f (take i xs)) (f x) before step)

  -- the same of the image of each element
  pub noted_image : {A B : Type 0} (f : B → List Key) (k : A → B) (xs : List A) (i : ℕ) (d : A)
      → i < length xs → {old mid new : N} → notes old mid (flat_map f (map k (take i xs)))
      → notes mid new (f (k (get_or xs i d))) → notes old new (flat_map f (map k (take (i + 1) xs)))
  noted_image f k xs i d inside {old} {mid} {new} before step =
      let here = flat_map-map f k (take i xs) in
      let there = flat_map-map f k (take (i + 1) xs) in
      subst (notes old new) (sym there)
      (noted_more (λ x. f (k x)) xs i d inside (subst (notes old mid) here before) step)
