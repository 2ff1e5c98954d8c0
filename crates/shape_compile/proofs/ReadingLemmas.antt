-- Lists whose elements are written one after the other.
use Rattle.std.specs.Prelude.{◌≡◌, ℕ, ◌+◌, ◌<◌, List, [], ◌∷◌, All, get_or, length, map, take}
use Rattle.std.proofs.Common.{set, sym, ap, ◌∙◌, subst, refl}
use Rattle.std.proofs.lemmas.Grind.{take-set_at}
use Rattle.std.proofs.lemmas.List.{map-set, set-get_or}
use Rattle.std.proofs.lemmas.List.Elements.{All-append, All-cons, All-nil}

-- what is made of an element stays the same
pub map_same : {X S : Type 0} (f : X → S) (xs : List X) (i : ℕ) (x y : X) → i < length xs
    → f y ≡ f (get_or xs i x) → map f (set xs i y) ≡ map f xs
map_same f xs i x y inside same =
    map-set f xs i y
    ∙ ap (set (map f xs) i) same
    ∙ sym (map-set f xs i (get_or xs i x))
    ∙ ap (map f) (set-get_or xs i x)

-- an element more is as the ones before it
pub all_more : {X : Type 0} (P : X → Type 0) (xs : List X) (i : ℕ) (y : X) → i < length xs
    → All P (take i xs) → P y → All P (take (i + 1) (set xs i y))
all_more P xs i y inside before here =
    subst (All P) (sym (take-set_at xs i (i + 1) y refl inside))
    (All-append P (take i xs) (y ∷ []) before (All-cons P y [] here (All-nil P)))
