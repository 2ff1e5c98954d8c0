-- Rows that are made of declarations, one for each.
use Rattle.std.specs.Prelude.{◌≡◌, ℕ, ◌+◌, ◌<◌, List, [], ◌∷◌, ◌++◌, length, map, take}
use Rattle.std.proofs.Common.{sym, ap, ◌∙◌, arith, get_or}
use Rattle.std.proofs.lemmas.List.{get_or-map, length-map, map_more, map_push}

-- g tells a row, and f makes it of what t tells
module _ {X Y Z W : Type 0} (g : Z → W) (f : Y → W) (t : X → Y) (xs : List X) (i : ℕ) (d : X)
    (inside : i < length xs) (rows : List Z) (row : Z) where
  -- a row more
  pub rows_more : map g rows ≡ map f (map t (take i xs)) → g row ≡ f (t (get_or xs i d))
      → map g (rows ++ row ∷ []) ≡ map f (map t (take (i + 1) xs))
  rows_more before made =
      map_push g rows row
      ∙ ap (λ ws. ws ++ g row ∷ []) before
      ∙ ap (λ w. map f (map t (take i xs)) ++ w ∷ []) made
      ∙ sym (ap (map f) (map_more t xs i d inside) ∙ map_push f (map t (take i xs)) (t (get_or xs i d)))

  -- the row at a place
  pub row_made : map g rows ≡ map f (map t xs) → row ≡ get_or rows i row → g row ≡ f (t (get_or xs i d))
  row_made all there =
      let within : i < length (map t xs) = omega (arith, length-map xs t) in
      let among : i < length rows =
      omega (arith, ap length all, length-map rows g, length-map (map t xs) f, length-map xs t) in
      ap g there
      ∙ sym (get_or-map g rows i row (g row) among)
      ∙ ap (λ ws. get_or ws i (g row)) all
      ∙ get_or-map f (map t xs) i (t d) (g row) within
      ∙ ap f (get_or-map t xs i d (t d) inside)
