-- Two lists, member by member.
use Rattle.std.specs.Prelude.{◌≡◌, List, [], ◌∷◌, ◌++◌, flat_map, map, Contains}
use Rattle.std.proofs.Common.{refl, sym, ap₂, ◌∙◌, subst, inl, inr}
use Rattle.std.proofs.lemmas.List.{map-append}
use Rattle.shx_term.proofs.MemberLemmas.{Contains-cases, Contains-head, Contains-tail, none_in_empty}

-- they are as long, and it is so of each two that stand at one place
abbrev pub InTurn : {A B : Type 0} → (A → B → Type 0) → List A → List B → Type 0
InTurn P [] [] = Unit {0}
InTurn P [] (y ∷ ys) = ⊥
InTurn P (x ∷ xs) [] = ⊥
InTurn P (x ∷ xs) (y ∷ ys) = P x y × InTurn P xs ys

-- lists with the same images
pub in_turn : {A B C : Type 0} (f : A → C) (g : B → C) (P : A → B → Type 0) (xs : List A) (ys : List B)
    → map f xs ≡ map g ys
    → ((x : A) (y : B) → Contains xs x → Contains ys y → f x ≡ g y → P x y)
    → InTurn P xs ys
in_turn f g P [] [] same each = tt
in_turn f g P [] (y ∷ ys) same each = absurd (cc)
in_turn f g P (x ∷ xs) [] same each = absurd (cc)
in_turn f g P (x ∷ xs) (y ∷ ys) same each =
    let first : f x ≡ g y = cc in
    let rest : map f xs ≡ map g ys = cc in (
      each x y (Contains-head x xs) (Contains-head y ys) first,
      in_turn f g P xs ys rest (λ a b c d. each a b (Contains-tail x a xs c) (Contains-tail y b ys d)),
    )

-- a list beside itself
pub beside_itself : {A : Type 0} (P : A → A → Type 0) (xs : List A) → ((x : A) → Contains xs x → P x x)
    → InTurn P xs xs
beside_itself P [] each = tt
beside_itself P (x ∷ xs) each =
    (each x (Contains-head x xs), beside_itself P xs (λ a c. each a (Contains-tail x a xs c)))

module _ {A B : Type 0} (P : A → B → Type 0) where
  pub weaker_in_turn : (Q : A → B → Type 0) → ((x : A) (y : B) → P x y → Q x y) → (xs : List A) (ys : List B)
      → InTurn P xs ys → InTurn Q xs ys
  weaker_in_turn Q weaker [] [] each = tt
  weaker_in_turn Q weaker [] (y ∷ ys) each = absurd each
  weaker_in_turn Q weaker (x ∷ xs) [] each = absurd each
  weaker_in_turn Q weaker (x ∷ xs) (y ∷ ys) each =
      (weaker x y each.0, weaker_in_turn Q weaker xs ys each.1)

  -- what stands beside a member
  pub beside : (xs : List A) (ys : List B) → InTurn P xs ys → (x : A) → Contains xs x → (y : B) × P x y
  beside [] ys each x c = absurd (none_in_empty x c)
  beside (a ∷ xs) [] each x c = absurd each
  beside (a ∷ xs) (b ∷ ys) each x c = elim (Contains-cases a x xs c) [
    | inl same ↦ (b, subst (λ z. P z b) (sym same) each.0)
    | inr later ↦ beside xs ys each.1 x later
  ]

  -- the second is the image of the first
  pub image_in_turn : (f : A → B) → ((x : A) (y : B) → P x y → f x ≡ y) → (xs : List A) (ys : List B)
      → InTurn P xs ys → ys ≡ map f xs
  image_in_turn f is [] [] each = refl
  image_in_turn f is [] (y ∷ ys) each = absurd each
  image_in_turn f is (x ∷ xs) [] each = absurd each
  image_in_turn f is (x ∷ xs) (y ∷ ys) each =
      ap₂ ◌∷◌ (sym (is x y each.0)) (image_in_turn f is xs ys each.1)

-- where parts are images of parts, the whole is of the whole
pub parts_in_turn : {A B X Y : Type 0} (r : X → Y) (old : A → List X) (new : B → List Y) (xs : List A)
    (ys : List B) → InTurn (λ x y. new y ≡ map r (old x)) xs ys
    → flat_map new ys ≡ map r (flat_map old xs)
parts_in_turn r old new [] [] each = refl
parts_in_turn r old new [] (y ∷ ys) each = absurd each
parts_in_turn r old new (x ∷ xs) [] each = absurd each
parts_in_turn r old new (x ∷ xs) (y ∷ ys) each =
    ap₂ ◌++◌ each.0 (parts_in_turn r old new xs ys each.1)
    ∙ sym (map-append r (old x) (flat_map old xs))
