-- Tests, and what passes them.
use Rattle.std.specs.Prelude.{◌≡◌, Bool, true, false, not, ◌||◌, ◌&&◌, List, [], ◌∷◌, Contains, ◌⊎◌}
use Rattle.std.specs.List.{list_any}
use Rattle.std.proofs.Common.{refl, sym, ap, ◌∙◌, inl, inr, true≢false}
use Rattle.shx_term.proofs.MemberLemmas.{Contains-cases, Contains-head, Contains-tail, none_in_empty}

pub or_left : (a b : Bool) → a ≡ true → a || b ≡ true
or_left true b e = refl
or_left false b e = absurd (true≢false (sym e))

pub or_right : (a b : Bool) → b ≡ true → a || b ≡ true
or_right true b e = refl
or_right false b e = e

pub or_cases : (a b : Bool) → a || b ≡ true → (a ≡ true) ⊎ (b ≡ true)
or_cases true b e = inl refl
or_cases false b e = inr e

-- the first, and not the second
pub only_first : (a b : Bool) → a && not b ≡ true → (a ≡ true) × (b ≡ true → ⊥)
only_first true true e = absurd (true≢false (sym e))
only_first true false e = (refl, λ h. true≢false (sym h))
only_first false b e = absurd (true≢false (sym e))

pub first_alone : (a b : Bool) → a ≡ true → (b ≡ true → ⊥) → a && not b ≡ true
first_alone true true e none = absurd (none refl)
first_alone true false e none = refl
first_alone false b e none = e

-- a test that one of the elements passes
module _ {X : Type 0} (p : X → Bool) where
  pub any_from : (xs : List X) → list_any p xs ≡ true → (x : X) × Contains xs x × (p x ≡ true)
  any_from [] e = absurd (true≢false (sym e))
  any_from (x ∷ xs) e = elim (or_cases (p x) (list_any p xs) e) [
    | inl h ↦ (x, Contains-head x xs, h)
    | inr h ↦ let found = any_from xs h in (found.0, Contains-tail x found.0 xs found.1, found.2)
  ]

  pub any_to : (xs : List X) (x : X) → Contains xs x → p x ≡ true → list_any p xs ≡ true
  any_to [] x c h = absurd (none_in_empty x c)
  any_to (y ∷ ys) x c h = elim (Contains-cases y x ys c) [
    | inl e ↦ or_left (p y) (list_any p ys) (ap p (sym e) ∙ h)
    | inr d ↦ or_right (p y) (list_any p ys) (any_to ys x d h)
  ]
