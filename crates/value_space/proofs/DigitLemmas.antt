-- The number that digits write, digit by digit.
use Rattle.std.proofs.Common.{◌≡◌, ℕ, suc, zero, ◌-◌, ◌^◌, ◌<◌, ◌≤◌, Bool, true, ◌&&◌, List, [], ◌∷◌, length}
use Rattle.std.proofs.Common.{map, inl, inr, ◌⊎◌, arith}
use Rattle.std.specs.Int.Digits.{AllBelowBase}
use Rattle.std.specs.List.{list_all}
use Rattle.std.proofs.lemmas.Int.Digits.{number_lt}
use Rattle.std.proofs.Math.Nat.{pow-suc}
use Rattle.std.proofs.lemmas.Grind.{common_steps}
use Rattle.std.proofs.lemmas.List.{length-map}
use Rattle.shx_term.specs.NumberForm.{is_digit, number_of}

pub order : (m n : ℕ) → (m < n) ⊎ (n ≤ m)
order m zero = inr (omega arith)
order zero (suc n) = inl (omega arith)
order (suc m) (suc n) =
    elim (order m n) as (λ _. (suc m < suc n) ⊎ (suc n ≤ suc m))
    [ inl h ↦ inl (omega arith) | inr h ↦ inr (omega arith) ]

pub and-split : (a b : Bool) → (a && b) ≡ true → (a ≡ true) × (b ≡ true)
and-split a b h = grind arith

pub is_digit_below : (d : ℕ) → is_digit d ≡ true → d - 48 < 10
is_digit_below d h = grind (arith, common_steps)

abbrev pub digit_of : ℕ → ℕ
digit_of b = b - 48

digits_are_below : (digits : List ℕ) → list_all is_digit digits ≡ true → AllBelowBase 10 (map digit_of digits)
digits_are_below [] h = tt
digits_are_below (d ∷ ds) h = let parts = and-split (is_digit d) (list_all is_digit ds) h in
    (is_digit_below d parts.0, digits_are_below ds parts.1)

pub number_of-below : (digits : List ℕ) → list_all is_digit digits ≡ true
    → number_of digits < 10 ^ length digits
number_of-below digits h =
    rw (length-map digits digit_of) at (number_lt 10 (map digit_of digits) (digits_are_below digits h))

pub ten_to : (m n : ℕ) → m ≤ n → 10 ^ m ≤ 10 ^ n
ten_to m zero h = let none : m ≡ 0 = omega arith in rw none (omega arith)
ten_to m (suc n) h =
    elim (order m (suc n)) as (λ _. 10 ^ m ≤ 10 ^ suc n) [
      | inl lt ↦ omega (arith, ten_to m n (omega arith), pow-suc 10 n)
      | inr le ↦ (let same : m ≡ suc n = omega arith in rw same (omega arith))
    ]
