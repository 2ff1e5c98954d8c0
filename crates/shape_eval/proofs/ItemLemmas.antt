-- What is made of the element at which a loop stands.
use Rattle.std.specs.Prelude.{◌≡◌, ℕ, ◌+◌, ◌<◌, List, [], ◌∷◌, ◌++◌, get_or, length, take, flat_map, All}
use Rattle.std.proofs.Common.{sym, ap, ◌∙◌, subst, append-nil}
use Rattle.std.proofs.lemmas.List.{take_more}
use Rattle.std.proofs.lemmas.Grind.{flat_map-append}
use Rattle.shx_term.proofs.MemberLemmas.{All_part, Contains-at, each_of_All}

pub part_at : {X Y : Type 0} (P : Y → Type 0) (f : X → List Y) (xs : List X) (i : ℕ) (x : X) → i < length xs
    → x ≡ get_or xs i x → All P (flat_map f xs) → All P (f x)
part_at P f xs i x inside here all = subst (λ y. All P (f y)) (sym here) (All_part P f xs i x inside all)

pub item_at : {X : Type 0} (P : X → Type 0) (xs : List X) (i : ℕ) (x : X) → i < length xs → x ≡ get_or xs i x
    → All P xs → P x
item_at P xs i x inside here all =
    subst P (sym here) (each_of_All P xs all (get_or xs i x) (Contains-at xs i x inside))

-- a step of a loop that appends what is made of one element after the other
pub flat_map-take_item : {X Y : Type 0} (f : X → List Y) (xs : List X) (i : ℕ) (x : X) → i < length xs
    → x ≡ get_or xs i x → (mid new : List Y) → mid ≡ flat_map f (take i xs) → new ≡ mid ++ f x
    → new ≡ flat_map f (take (i + 1) xs)
flat_map-take_item f xs i x inside here mid new before step =
    let all : flat_map f (take (i + 1) xs) ≡ flat_map f (take i xs) ++ f x =
    ap (flat_map f) (take_more xs i x inside)
    ∙ flat_map-append f (take i xs) (get_or xs i x ∷ [])
    ∙ ap (λ ks. flat_map f (take i xs) ++ ks) (append-nil (f (get_or xs i x)))
    ∙ ap (λ y. flat_map f (take i xs) ++ f y) (sym here) in
    step ∙ ap (λ ys. ys ++ f x) before ∙ sym all
