-- Lists that go with each other member by member: their parts, what a test keeps of them, and their counts.
use Rattle.std.specs.Prelude.{◌≡◌, ◌||◌, suc, Bool, true, false, cond, List, [], ◌∷◌, ◌++◌, filter, flat_map}
use Rattle.std.specs.Prelude.{length, map, if◌then◌else◌}
use Rattle.std.specs.Set.{distinct_count, is_member, unique_keys}
use Rattle.std.proofs.Common.{refl, sym, ap, ap₂, ◌∙◌, true≢false}
use Rattle.plan_swap.proofs.TurnLemmas.{InTurn}

module _ {X Y : Type 0} (P : X → Y → Type 0) where
  InTurn-append : (xs : List X) (ys : List Y) (us : List X) (vs : List Y) → InTurn P xs ys → InTurn P us vs
      → InTurn P (xs ++ us) (ys ++ vs)
  InTurn-append [] [] us vs first second = second
  InTurn-append [] (y ∷ ys) us vs first second = absurd first
  InTurn-append (x ∷ xs) [] us vs first second = absurd first
  InTurn-append (x ∷ xs) (y ∷ ys) us vs first second = (first.0, InTurn-append xs ys us vs first.1 second)

  module _ {A B : Type 0} (f : A → List X) (g : B → List Y) where
    -- where the parts go with each other, the wholes do
    pub InTurn-parts : (Q : A → B → Type 0) → ((c : A) (d : B) → Q c d → InTurn P (f c) (g d))
        → (cs : List A) (ds : List B) → InTurn Q cs ds → InTurn P (flat_map f cs) (flat_map g ds)
    InTurn-parts Q part [] [] each = tt
    InTurn-parts Q part [] (d ∷ ds) each = absurd each
    InTurn-parts Q part (c ∷ cs) [] each = absurd each
    InTurn-parts Q part (c ∷ cs) (d ∷ ds) each =
        InTurn-append (f c) (g d) (flat_map f cs) (flat_map g ds) (part c d each.0)
        (InTurn-parts Q part cs ds each.1)

  -- parts of one list
  pub InTurn-both_parts : {A : Type 0} (f : A → List X) (g : A → List Y) → ((c : A) → InTurn P (f c) (g c))
      → (cs : List A) → InTurn P (flat_map f cs) (flat_map g cs)
  InTurn-both_parts f g part [] = tt
  InTurn-both_parts f g part (c ∷ cs) =
      InTurn-append (f c) (g c) (flat_map f cs) (flat_map g cs) (part c) (InTurn-both_parts f g part cs)

  -- images of one list
  pub InTurn-images : {A : Type 0} (f : A → X) (g : A → Y) (cs : List A) → ((c : A) → P (f c) (g c))
      → InTurn P (map f cs) (map g cs)
  InTurn-images f g [] each = tt
  InTurn-images f g (c ∷ cs) each = (each c, InTurn-images f g cs each)

  pub InTurn-length : (xs : List X) (ys : List Y) → InTurn P xs ys → length xs ≡ length ys
  InTurn-length [] [] each = refl
  InTurn-length [] (y ∷ ys) each = absurd each
  InTurn-length (x ∷ xs) [] each = absurd each
  InTurn-length (x ∷ xs) (y ∷ ys) each = ap suc (InTurn-length xs ys each.1)

-- tests of both sides keep what goes with each other, if they agree
module _ {X Y : Type 0} (Q : X → Y → Type 0) (p : X → Bool) (q : Y → Bool) where
  pub record KeepAlike (x : X) (y : Y) : Type 0 where
    pub agree : p x ≡ q y
    pub kept : p x ≡ true → Q x y

  pub InTurn-filter : (xs : List X) (ys : List Y) → InTurn KeepAlike xs ys
      → InTurn Q (filter p xs) (filter q ys)
  InTurn-filter [] [] each = tt
  InTurn-filter [] (y ∷ ys) each = absurd each
  InTurn-filter (x ∷ xs) [] each = absurd each
  InTurn-filter (x ∷ xs) (y ∷ ys) each = by (p x) (q y) refl refl (InTurn-filter xs ys each.1)
    where
      by : (b c : Bool) → p x ≡ b → q y ≡ c → InTurn Q (filter p xs) (filter q ys)
          → InTurn Q (if b then x ∷ filter p xs else filter p xs) (if c then y ∷ filter q ys else filter q ys)
      by true true here there rest = (each.0.kept here, rest)
      by true false here there rest = absurd (true≢false (sym here ∙ each.0.agree ∙ there))
      by false true here there rest = absurd (true≢false (sym there ∙ sym each.0.agree ∙ here))
      by false false here there rest = rest

-- as many differ on both sides, where two are the same on one side exactly if they are on the other
module _ {X Y : Type 0} (P : X → Y → Type 0) (same : X → X → Bool) (alike : Y → Y → Bool)
    (agree : (x u : X) (y v : Y) → P x y → P u v → same x u ≡ alike y v) where
  member_alike : (x : X) (y : Y) → P x y → (xs : List X) (ys : List Y) → InTurn P xs ys
      → is_member same xs x ≡ is_member alike ys y
  member_alike x y one [] [] each = refl
  member_alike x y one [] (v ∷ ys) each = absurd each
  member_alike x y one (u ∷ xs) [] each = absurd each
  member_alike x y one (u ∷ xs) (v ∷ ys) each =
      ap₂ ◌||◌ (agree x u y v one each.0) (member_alike x y one xs ys each.1)

  pub InTurn-distinct_count : (xs : List X) (ys : List Y) → InTurn P xs ys
      → distinct_count same xs ≡ distinct_count alike ys
  InTurn-distinct_count [] [] each = refl
  InTurn-distinct_count [] (y ∷ ys) each = absurd each
  InTurn-distinct_count (x ∷ xs) [] each = absurd each
  InTurn-distinct_count (x ∷ xs) (y ∷ ys) each =
      let rest = InTurn-distinct_count xs ys each.1 in
      ap (λ b. length (cond b (unique_keys same xs) (x ∷ unique_keys same xs)))
      (member_alike x y each.0 xs ys each.1)
      ∙ by (is_member alike ys y) rest
    where
      by : (b : Bool) → distinct_count same xs ≡ distinct_count alike ys
          → length (cond b (unique_keys same xs) (x ∷ unique_keys same xs))
          ≡ length (cond b (unique_keys alike ys) (y ∷ unique_keys alike ys))
      by true rest = rest
      by false rest = ap suc rest
