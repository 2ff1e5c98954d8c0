-- How many pass a test tells whether all do, whether some do, and whether none does.
use Rattle.std.specs.Prelude.{◌≡◌, ◌≤◌, ◌==◌, nat_lt, Bool, true, false, ◌&&◌, ◌||◌, not, if◌then◌else◌}
use Rattle.std.specs.Prelude.{List, [], ◌∷◌, filter, length}
use Rattle.std.specs.List.{list_all, list_any}
use Rattle.std.proofs.Common.{refl, ◌∙◌, arith}
use Rattle.std.proofs.Math.Dec.{eqb-suc-suc, eqb-suc-zero}
use Rattle.std.proofs.lemmas.Bool.{lt-ltb, ne_eqb}
use Rattle.std.proofs.lemmas.List.Sums.{length-filter, count_by-le-length}

module _ {X : Type 0} (p : X → Bool) where
  pub none_counted : (xs : List X) → (length (filter p xs) == 0) ≡ not (list_any p xs)
  none_counted [] = refl
  none_counted (x ∷ xs) =
      elim (p x) as
      (λ b. (length (if b then x ∷ filter p xs else filter p xs) == 0)
      ≡ not (b || list_any p xs)) [
        | true ↦ eqb-suc-zero (length (filter p xs))
        | false ↦ none_counted xs
      ]

  pub some_counted : (xs : List X) → nat_lt 0 (length (filter p xs)) ≡ list_any p xs
  some_counted [] = refl
  some_counted (x ∷ xs) =
      elim (p x) as
      (λ b. nat_lt 0 (length (if b then x ∷ filter p xs else filter p xs))
      ≡ (b || list_any p xs)) [
        | true ↦ lt-ltb 0 (length (x ∷ filter p xs)) (omega arith)
        | false ↦ some_counted xs
      ]

  no_more : (xs : List X) → length (filter p xs) ≤ length xs
  no_more xs = rw (length-filter p xs) (count_by-le-length p xs)

  pub all_counted : (xs : List X) → (length (filter p xs) == length xs) ≡ list_all p xs
  all_counted [] = refl
  all_counted (x ∷ xs) =
      let within = no_more xs in
      elim (p x) as
      (λ b. (length (if b then x ∷ filter p xs else filter p xs) == length (x ∷ xs))
      ≡ (b && list_all p xs)) [
        | true ↦ eqb-suc-suc (length (filter p xs)) (length xs) ∙ all_counted xs
        | false ↦ ne_eqb (length (filter p xs)) (length (x ∷ xs)) (λ e. omega (arith, e, within))
      ]
