-- The digits of a number, read in turn.
use Rattle.std.proofs.Common.{◌≡◌, ℕ, suc, zero, ◌+◌, ◌-◌, ◌*◌, ◌/◌, ◌^◌, ◌<◌, ◌≤◌, Bool, true, false, cond}
use Rattle.std.proofs.Common.{◌&&◌, eqb, nat_lt, List, [], ◌∷◌, ◌++◌, Option, Some, None, get_or, length}
use Rattle.std.proofs.Common.{take, map, replicate, reverse, refl, sym, ap, inl, inr, ◌∙◌, arith}
use Rattle.std.proofs.Common.{length-append}
use Rattle.std.specs.Int.Digits.{number_from_digits_after}
use Rattle.std.specs.List.{list_all, take_while}
use Rattle.std.proofs.Math.Nat.{pow-suc, mul-le-mul_right}
use Rattle.std.proofs.lemmas.Grind.{common_steps, reverse_onto}
use Rattle.std.proofs.lemmas.Int.Digits.{number_after_ge}
use Rattle.std.proofs.lemmas.List.{length-take, length-reverse, length-replicate}
use Rattle.std.proofs.lemmas.List.Sums.{take_while-cons}
use Rattle.shx_term.specs.NumberForm.{is_digit, number_of, without_leading_zeros, without_trailing_zeros}
use Rattle.value_space.specs.inner.DigitRuns.{behind_digits, with_digit, with_place, narrow_number}
use Rattle.value_space.specs.inner.DigitRuns.{narrow_fraction}
use Rattle.value_space.specs.Numbers.{number_in_places}
use Rattle.value_space.proofs.DigitLemmas.{order, and-split, digit_of, is_digit_below, ten_to}
use Rattle.value_space.proofs.DigitLemmas.{number_of-below}
use Rattle.value_space.proofs.FormLemmas.{take_while-all}
use Rattle.value_space.proofs.NumberLemmas.{number_of-without_leading_zeros, all-without_leading_zeros}

-- the number where the digits that a text begins with stand behind one
abbrev pub number_behind : Option ℕ → List ℕ → Option ℕ
number_behind number [] = number
number_behind number (b ∷ bs) = cond (is_digit b) (number_behind (with_digit number (b - 48)) bs) number

-- the fraction where they stand behind one, the first in a place of this unit
abbrev pub fraction_behind : Option ℕ → ℕ → List ℕ → Option ℕ
fraction_behind fraction unit [] = fraction
fraction_behind fraction unit (b ∷ bs) =
    cond (is_digit b) (fraction_behind (with_place fraction unit (b - 48)) (unit / 10) bs) fraction

-- where no digit stands first, nothing is read
pub no_rest : (text : List ℕ) → is_digit (get_or text 0 0) ≡ false → behind_digits text ≡ text
no_rest [] h = refl
no_rest (b ∷ bs) h = rw h refl

pub no_number : (number : Option ℕ) (text : List ℕ) → is_digit (get_or text 0 0) ≡ false
    → number_behind number text ≡ number
no_number number [] h = refl
no_number number (b ∷ bs) h = rw h refl

pub no_fraction : (fraction : Option ℕ) (unit : ℕ) (text : List ℕ) → is_digit (get_or text 0 0) ≡ false
    → fraction_behind fraction unit text ≡ fraction
no_fraction fraction unit [] h = refl
no_fraction fraction unit (b ∷ bs) h = rw h refl

-- the number where all these digits stand behind one
abbrev number_run : Option ℕ → List ℕ → Option ℕ
number_run number [] = number
number_run number (d ∷ ds) = number_run (with_digit number (d - 48)) ds

number_behind-run : (number : Option ℕ) (text : List ℕ)
    → number_behind number text ≡ number_run number (take_while is_digit text)
number_behind-run number [] = refl
number_behind-run number (b ∷ bs) =
    elim (is_digit b) as (λ t. cond t (number_behind (with_digit number (b - 48)) bs) number
    ≡ number_run number (cond t (b ∷ take_while is_digit bs) []))
    [ true ↦ number_behind-run (with_digit number (b - 48)) bs | false ↦ refl ]
    ∙ sym (ap (number_run number) (take_while-cons is_digit b bs))

number_run-none : (ds : List ℕ) → number_run None ds ≡ None
number_run-none [] = refl
number_run-none (d ∷ ds) = number_run-none ds

pub is_below : (m n : ℕ) → m < n → nat_lt m n ≡ true
is_below m n h = grind (arith, common_steps)

pub not_below : (m n : ℕ) → n ≤ m → nat_lt m n ≡ false
not_below m n h = grind (arith, common_steps)

number_run-is : (n : ℕ) (ds : List ℕ) → list_all is_digit ds ≡ true → n < 10 ^ 38
    → number_run (Some n) ds
    ≡ cond (nat_lt (number_from_digits_after 10 n (map digit_of ds)) (10 ^ 38))
    (Some (number_from_digits_after 10 n (map digit_of ds))) None
number_run-is n [] h small = rw (is_below n (10 ^ 38) small) refl
number_run-is n (d ∷ ds) h small =
    let parts = and-split (is_digit d) (list_all is_digit ds) h in
    let digit = is_digit_below d parts.0 in
    let next = n * 10 + (d - 48) in
    let all = number_from_digits_after 10 next (map digit_of ds) in
    elim (order n (10 ^ 37)) as (λ _. number_run (with_digit (Some n) (d - 48)) ds
    ≡ cond (nat_lt all (10 ^ 38)) (Some all) None) [
      | inl lt ↦
          (let fits : next < 10 ^ 38 = omega arith in
          rw (is_below n (10 ^ 37) lt) (number_run-is next ds parts.1 fits))
      | inr ge ↦
          (let long : 10 ^ 38 ≤ all =
          omega (arith, number_after_ge 10 next (map digit_of ds) (omega arith)) in
          rw (not_below n (10 ^ 37) ge, not_below all (10 ^ 38) long) (number_run-none ds))
    ]

after-least : (n : ℕ) (ds : List ℕ) → n * 10 ^ length ds ≤ number_from_digits_after 10 n (map digit_of ds)
after-least n [] = omega arith
after-least n (d ∷ ds) = let rest = after-least (n * 10 + (d - 48)) ds in
    rw (pow-suc 10 (length ds)) (omega (arith, rest))

not_digit : (d : ℕ) → d < 48 → is_digit d ≡ true → ⊥
not_digit d lt h = grind (arith, common_steps)

first-least : (d : ℕ) (ds : List ℕ) → 48 < d → 38 < suc (length ds) → 10 ^ 38 ≤ number_of (d ∷ ds)
first-least d ds more many =
    let power : 10 ^ 38 ≤ 10 ^ length ds = ten_to 38 (length ds) (omega arith) in
    let one : 1 * 10 ^ length ds ≤ (d - 48) * 10 ^ length ds =
    mul-le-mul_right (10 ^ length ds) (omega arith) in
    let first : (0 * 10 + (d - 48)) * 10 ^ length ds ≤ number_of (d ∷ ds) =
    after-least (0 * 10 + (d - 48)) ds in
    omega (arith, power, one, first)

above_zero : (d : ℕ) → 48 ≤ d → eqb d 48 ≡ false → 48 < d
above_zero d ge other = grind (arith, common_steps)

significant-from : (d : ℕ) (ds : List ℕ) → 48 ≤ d → list_all is_digit ds ≡ true
    → (38 < length (without_leading_zeros ds) → 10 ^ 38 ≤ number_of (without_leading_zeros ds))
    → 38 < length (without_leading_zeros (d ∷ ds)) → 10 ^ 38 ≤ number_of (without_leading_zeros (d ∷ ds))
significant-from d ds ge h rest =
    elim (eqb d 48) as (λ t. (t ≡ false → 48 < d) → 38 < length (cond t (without_leading_zeros ds) (d ∷ ds))
    → 10 ^ 38 ≤ number_of (cond t (without_leading_zeros ds) (d ∷ ds)))
    [ true ↦ (λ _. rest) | false ↦ (λ more many. first-least d ds (more refl) many) ]
    (λ other. above_zero d ge other)

significant-least : (ds : List ℕ) → list_all is_digit ds ≡ true → 38 < length (without_leading_zeros ds)
    → 10 ^ 38 ≤ number_of (without_leading_zeros ds)
significant-least [] h many = absurd (omega arith)
significant-least (d ∷ ds) h many =
    let parts = and-split (is_digit d) (list_all is_digit ds) h in
    elim (order d 48) as (λ _. 10 ^ 38 ≤ number_of (without_leading_zeros (d ∷ ds))) [
      | inl lt ↦ absurd (not_digit d lt parts.0)
      | inr ge ↦ significant-from d ds ge parts.1 (significant-least ds parts.1) many
    ]

number_of-narrow : (ds : List ℕ) → list_all is_digit ds ≡ true
    → cond (nat_lt (number_of ds) (10 ^ 38)) (Some (number_of ds)) None ≡ narrow_number ds
number_of-narrow ds h =
    let significant = without_leading_zeros ds in
    let same = number_of-without_leading_zeros ds in
    elim (order 38 (length significant)) as (λ _. cond (nat_lt (number_of ds) (10 ^ 38))
    (Some (number_of ds)) None
    ≡ narrow_number ds) [
      | inl many ↦
          (let long : 10 ^ 38 ≤ number_of ds = omega (arith, same, significant-least ds h many) in
          rw (not_below (number_of ds) (10 ^ 38) long, is_below 38 (length significant) many) refl)
      | inr few ↦
          (let short : number_of ds < 10 ^ 38 =
          omega (
            arith,
            same,
            number_of-below significant (all-without_leading_zeros ds h),
            ten_to (length significant) 38 few,
          )
          in
          rw (is_below (number_of ds) (10 ^ 38) short, not_below 38 (length significant) few) refl)
    ]

pub number_behind-is : (text : List ℕ)
    → number_behind (Some 0) text ≡ narrow_number (take_while is_digit text)
number_behind-is text =
    let digits = take_while is_digit text in
    let all = take_while-all is_digit text in
    number_behind-run (Some 0) text ∙ number_run-is 0 digits all (omega arith) ∙ number_of-narrow digits all

-- the fraction where all these digits stand behind one
abbrev fraction_run : Option ℕ → ℕ → List ℕ → Option ℕ
fraction_run fraction unit [] = fraction
fraction_run fraction unit (d ∷ ds) = fraction_run (with_place fraction unit (d - 48)) (unit / 10) ds

fraction_behind-run : (fraction : Option ℕ) (unit : ℕ) (text : List ℕ)
    → fraction_behind fraction unit text ≡ fraction_run fraction unit (take_while is_digit text)
fraction_behind-run fraction unit [] = refl
fraction_behind-run fraction unit (b ∷ bs) =
    elim (is_digit b) as (λ t. cond t
    (fraction_behind (with_place fraction unit (b - 48)) (unit / 10) bs) fraction
    ≡ fraction_run fraction unit (cond t (b ∷ take_while is_digit bs) []))
    [ true ↦ fraction_behind-run (with_place fraction unit (b - 48)) (unit / 10) bs | false ↦ refl ]
    ∙ sym (ap (fraction_run fraction unit) (take_while-cons is_digit b bs))

fraction_run-none : (unit : ℕ) (ds : List ℕ) → fraction_run None unit ds ≡ None
fraction_run-none unit [] = refl
fraction_run-none unit (d ∷ ds) = fraction_run-none (unit / 10) ds

-- the unit of the first of so many places
abbrev unit_of : ℕ → ℕ
unit_of zero = 0
unit_of (suc places) = 10 ^ places

unit_of-next : (places : ℕ) → unit_of (suc places) / 10 ≡ unit_of places
unit_of-next zero = refl
unit_of-next (suc places) = rw (pow-suc 10 places) (omega arith)

one_more : (n : ℕ) → n + 1 ≡ suc n
one_more n = omega arith

not_none : (b : Bool) (n : ℕ) → (b && eqb (suc n) 0) ≡ false
not_none b n = grind (arith, common_steps)

zeros-more : (xs : List ℕ) (d : ℕ)
    → length (without_leading_zeros (xs ++ d ∷ []))
    ≡ cond (eqb d 48 && eqb (length (without_leading_zeros xs)) 0) 0
    (suc (length (without_leading_zeros xs)))
zeros-more [] d =
    elim (eqb d 48) as (λ t. length (cond t [] (d ∷ [])) ≡ cond (t && true) 0 1)
    [ true ↦ refl | false ↦ refl ]
zeros-more (x ∷ xs) d =
    elim (eqb x 48) as (λ t. length (cond t (without_leading_zeros (xs ++ d ∷ [])) (x ∷ (xs ++ d ∷ [])))
    ≡ cond (eqb d 48 && eqb (length (cond t (without_leading_zeros xs) (x ∷ xs))) 0) 0
    (suc (length (cond t (without_leading_zeros xs) (x ∷ xs))))) [
      | true ↦ zeros-more xs d
      | false ↦ ap suc (length-append xs (d ∷ []) ∙ one_more (length xs))
          ∙ sym (ap (λ t. cond t 0 (suc (suc (length xs)))) (not_none (eqb d 48) (length xs)))
    ]

trailing-more : (d : ℕ) (ds : List ℕ)
    → length (without_trailing_zeros (d ∷ ds))
    ≡ cond (eqb d 48 && eqb (length (without_trailing_zeros ds)) 0) 0
    (suc (length (without_trailing_zeros ds)))
trailing-more d ds =
    let front = without_leading_zeros (reverse ds) in
    length-reverse (without_leading_zeros (reverse (d ∷ ds)))
    ∙ ap (λ xs. length (without_leading_zeros xs)) (reverse_onto ds d [])
    ∙ zeros-more (reverse ds) d
    ∙ ap (λ n. cond (eqb d 48 && eqb n 0) 0 (suc n)) (sym (length-reverse front))

zeros_write : (q p : ℕ) → number_of (take q (replicate p 48)) ≡ 0
zeros_write zero p = refl
zeros_write (suc q) zero = refl
zeros_write (suc q) (suc p) = zeros_write q p

no_digits : (p : ℕ) → number_in_places p [] ≡ 0
no_digits p = zeros_write p p

same_places : (q r s : ℕ) (ds : List ℕ) → q ≤ r → q ≤ s
    → take q (ds ++ replicate r 48) ≡ take q (ds ++ replicate s 48)
same_places zero r s ds hr hs = refl
same_places (suc q) zero s [] hr hs = absurd (omega arith)
same_places (suc q) (suc r) zero [] hr hs = absurd (omega arith)
same_places (suc q) (suc r) (suc s) [] hr hs =
    ap (λ xs. 48 ∷ xs) (same_places q r s [] (omega arith) (omega arith))
same_places (suc q) r s (d ∷ ds) hr hs = ap (λ xs. d ∷ xs) (same_places q r s ds (omega arith) (omega arith))

after-sum : (n : ℕ) (ds : List ℕ)
    → number_from_digits_after 10 n (map digit_of ds) ≡ n * 10 ^ length ds + number_of ds
after-sum n [] = omega arith
after-sum n (d ∷ ds) =
    let here = after-sum (n * 10 + (d - 48)) ds in
    let first = after-sum (0 * 10 + (d - 48)) ds in
    rw (pow-suc 10 (length ds)) (omega (arith, here, first))

digit_in_places : (p d : ℕ) (ds : List ℕ)
    → number_in_places (suc p) (d ∷ ds) ≡ (d - 48) * 10 ^ p + number_in_places p ds
digit_in_places p d ds =
    let behind = take p (ds ++ replicate p 48) in
    let long : length behind ≡ p =
    omega (
      arith,
      length-take p (ds ++ replicate p 48),
      length-append ds (replicate p 48),
      length-replicate {A = ℕ} p 48,
    )
    in
    ap (λ xs. number_of (d ∷ xs)) (same_places p (suc p) p ds (omega arith) (omega arith))
    ∙ after-sum (0 * 10 + (d - 48)) behind
    ∙ ap (λ n. (0 * 10 + (d - 48)) * 10 ^ n + number_of behind) long
    ∙ omega arith

at_place : (f u x : ℕ) → 0 < u → with_place (Some f) u x ≡ Some (f + x * u)
at_place f u x h = rw (is_below 0 u h) refl

not_zero : (x : ℕ) → 0 < x → eqb x 0 ≡ false
not_zero x h = grind (arith, common_steps)

no_place : (f x : ℕ) → 0 < x → with_place (Some f) 0 x ≡ None
no_place f x h = rw (not_zero x h) refl

zero_place : (f x : ℕ) → x ≡ 0 → with_place (Some f) 0 x ≡ Some f
zero_place f x h = let same : f + 0 * 0 ≡ f = omega arith in rw h (ap Some same)

wide_at_last : (d m n : ℕ) → 48 < d → m ≡ cond (eqb d 48 && eqb n 0) 0 (suc n) → nat_lt 0 m ≡ true
wide_at_last d m n more h = grind (arith, common_steps)

same_at_last : (d m n : ℕ) → is_digit d ≡ true → d ≤ 48 → m ≡ cond (eqb d 48 && eqb n 0) 0 (suc n)
    → nat_lt 0 m ≡ nat_lt 0 n
same_at_last d m n digit le h = grind (arith, common_steps)

wide_at_next : (p : ℕ) (b : Bool) (m n : ℕ) → m ≡ cond (b && eqb n 0) 0 (suc n)
    → nat_lt (suc p) m ≡ nat_lt p n
wide_at_next p b m n h = grind (arith, common_steps)

nothing_more : (n : ℕ) → 0 + n ≡ n
nothing_more n = omega arith

fraction_run-is : (p f : ℕ) (ds : List ℕ) → list_all is_digit ds ≡ true
    → fraction_run (Some f) (unit_of p) ds
    ≡ cond (nat_lt p (length (without_trailing_zeros ds))) None (Some (f + number_in_places p ds))
fraction_run-is p f [] h =
    let none : 0 ≤ p = omega arith in
    let same : f ≡ f + 0 = omega arith in
    rw (no_digits p, not_below p 0 none) (ap Some same)
fraction_run-is zero f (d ∷ ds) h =
    let parts = and-split (is_digit d) (list_all is_digit ds) h in
    elim (order 48 d) as (λ _. fraction_run (Some f) 0 (d ∷ ds)
    ≡ cond (nat_lt 0 (length (without_trailing_zeros (d ∷ ds)))) None (Some (f + 0))) [
      | inl more ↦
          ap (λ r. fraction_run r 0 ds) (no_place f (d - 48) (omega arith))
          ∙ fraction_run-none 0 ds
          ∙ sym (ap (λ t. cond t None (Some (f + 0))) (wide_at_last d _ _ more (trailing-more d ds)))
      | inr le ↦
          (let zero_digit : d - 48 ≡ 0 = omega arith in
          ap (λ r. fraction_run r 0 ds) (zero_place f (d - 48) zero_digit)
          ∙ fraction_run-is zero f ds parts.1
          ∙ sym (ap (λ t. cond t None (Some (f + 0))) (same_at_last d _ _ parts.0 le (trailing-more d ds))))
    ]
fraction_run-is (suc p) f (d ∷ ds) h =
    let parts = and-split (is_digit d) (list_all is_digit ds) h in
    let next = f + (d - 48) * 10 ^ p in
    let same : next + number_in_places p ds ≡ f + number_in_places (suc p) (d ∷ ds) =
    omega (arith, digit_in_places p d ds) in
    ap (λ r. fraction_run r (10 ^ p / 10) ds)
    (at_place f (10 ^ p) (d - 48) (omega (arith, ten_to 0 p (omega arith))))
    ∙ ap (λ u. fraction_run (Some next) u ds) (unit_of-next p)
    ∙ fraction_run-is p next ds parts.1
    ∙ ap (λ t. cond t None (Some (next + number_in_places p ds)))
    (sym (wide_at_next p (eqb d 48) _ _ (trailing-more d ds)))
    ∙ ap (λ v. cond (nat_lt (suc p) (length (without_trailing_zeros (d ∷ ds)))) None (Some v)) same

pub fraction_behind-is : (places : ℕ) (text : List ℕ) → 0 < places
    → fraction_behind (Some 0) (10 ^ (places - 1)) text ≡ narrow_fraction places (take_while is_digit text)
fraction_behind-is zero text some = absurd (omega arith)
fraction_behind-is (suc places) text some =
    let digits = take_while is_digit text in
    let first : suc places - 1 ≡ places = omega arith in
    ap (λ n. fraction_behind (Some 0) (10 ^ n) text) first
    ∙ fraction_behind-run (Some 0) (10 ^ places) text
    ∙ fraction_run-is (suc places) 0 digits (take_while-all is_digit text)
    ∙ ap (λ n. cond (nat_lt (suc places) (length (without_trailing_zeros digits))) None (Some n))
    (nothing_more (number_in_places (suc places) digits))
