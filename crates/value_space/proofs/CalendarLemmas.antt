-- The day number of XML Schema's formula is the one that jiff counts.
use Rattle.std.proofs.Common.{◌≡◌, ℕ, zero, suc, ◌+◌, ◌-◌, ◌%◌, ◌≤◌, true, false, cond, not, nat_le, ◌&&◌}
use Rattle.std.proofs.Common.{◌||◌, eqb, refl, add-one, arith, ℤ, pos, negsuc, neg_ℤ, ◌+ℤ◌, ◌-ℤ◌, ◌≤ℤ◌}
use Rattle.std.specs.Int.{int_div_euclid}
use Rattle.std.specs.Prelude.{unsigned_abs}
use Rattle.std.proofs.lemmas.Int.{ints}
use Rattle.std.proofs.lemmas.Bool.{leb-true}
use Rattle.std.proofs.lemmas.Grind.{common_steps}
use Rattle.jiff.specs.Words.{days_in_month, is_leap_year, IsYear, IsDate, IsBetween}
use Rattle.value_space.proofs.DigitLemmas.{and-split}
use Rattle.value_space.specs.Moments.{days_to_year, days_of_months, day_number, is_date}

abbrev divides : ℕ → ℤ → ℕ
divides k z = cond (eqb (unsigned_abs z % k) 0) 1 0

-- a multiple of k more begins a quotient
quotient-next4 : (z : ℤ)
    → int_div_euclid (z +ℤ pos 1) (pos 4) ≡ int_div_euclid z (pos 4) +ℤ pos (divides 4 (z +ℤ pos 1))
quotient-next4 (pos n) = grind (arith, ints)
quotient-next4 (negsuc zero) = refl
quotient-next4 (negsuc (suc n)) = grind (arith, ints)

quotient-next100 : (z : ℤ)
    → int_div_euclid (z +ℤ pos 1) (pos 100) ≡ int_div_euclid z (pos 100) +ℤ pos (divides 100 (z +ℤ pos 1))
quotient-next100 (pos n) = grind (arith, ints)
quotient-next100 (negsuc zero) = refl
quotient-next100 (negsuc (suc n)) = grind (arith, ints)

quotient-next400 : (z : ℤ)
    → int_div_euclid (z +ℤ pos 1) (pos 400) ≡ int_div_euclid z (pos 400) +ℤ pos (divides 400 (z +ℤ pos 1))
quotient-next400 (pos n) = grind (arith, ints)
quotient-next400 (negsuc zero) = refl
quotient-next400 (negsuc (suc n)) = grind (arith, ints)

-- a leap year has the quotients' one day more
leap_days : (n : ℕ)
    → cond ((eqb (n % 4) 0) && (not (eqb (n % 100) 0) || eqb (n % 400) 0)) 1 0 + cond (eqb (n % 100) 0) 1 0
    ≡ cond (eqb (n % 4) 0) 1 0 + cond (eqb (n % 400) 0) 1 0
leap_days n = grind (arith, common_steps)

days_to_year-next : (year : ℤ)
    → days_to_year (year +ℤ pos 1) ≡ days_to_year year +ℤ pos (365 + cond (is_leap_year year) 1 0)
days_to_year-next year =
    let before = year -ℤ pos 1 in
    let back : before +ℤ pos 1 ≡ year = omega (arith, ints) in
    let forth : (year +ℤ pos 1) -ℤ pos 1 ≡ year = omega (arith, ints) in
    rw forth
    (omega (
      arith,
      ints,
      rw back at (quotient-next4 before),
      rw back at (quotient-next100 before),
      rw back at (quotient-next400 before),
      leap_days (unsigned_abs year),
    ))

days_of_year : (year : ℤ) → days_of_months year 11 + 31 ≡ 365 + cond (is_leap_year year) 1 0
unfolding days_of_months
days_of_year year =
    elim (is_leap_year year) as (λ b. 31 + cond b 29 28 + 31 + 30 + 31 + 30 + 31 + 31 + 30 + 31 + 30 + 31
    ≡ 365 + cond b 1 0)
    [ true ↦ refl | false ↦ refl ]

days_in_month_least : (year : ℤ) (month : ℕ) → 1 ≤ days_in_month year month
days_in_month_least year month = grind arith

-- the years from -9999 on
from_first_year : (y : ℤ) → IsYear y → (k : ℕ) × (y ≡ pos k -ℤ pos 9999)
from_first_year (pos n) h = (n + 9999, omega (arith, ints))
from_first_year (negsuc n) h = (9998 - n, omega (arith, ints))

pos-le : (a b : ℕ) → a ≤ b → pos a ≤ℤ pos b
pos-le a b h = omega (arith, ints)

within_month : (n d : ℕ) → IsBetween (pos 1) (pos n) (pos d) → d ≤ n
within_month n d h = omega (arith, ints)

all_within : (m d n : ℕ) → 1 ≤ m → m ≤ 12 → 1 ≤ d → d ≤ n
    → ((nat_le 1 m && nat_le m 12) && (nat_le 1 d && nat_le d n)) ≡ true
all_within m d n p q r s = grind (arith, common_steps)

pub is_date-true : (y : ℤ) (m d : ℕ) → IsDate y (pos m) (pos d) → is_date y m d ≡ true
is_date-true y m d h =
    all_within m d (days_in_month y m) (omega (arith, ints)) (omega (arith, ints)) (omega (arith, ints))
    (within_month (days_in_month y m) d h.2)

pub is_date-false : (y : ℤ) (m d : ℕ) → IsYear y → ¬ (IsDate y (pos m) (pos d)) → is_date y m d ≡ false
is_date-false y m d year h =
    elim (is_date y m d) as (λ b. is_date y m d ≡ b → b ≡ false) [
      | true ↦ (λ e.
          let halves = and-split (nat_le 1 m && nat_le m 12) (nat_le 1 d && nat_le d (days_in_month y m)) e in
          let months = and-split (nat_le 1 m) (nat_le m 12) halves.0 in
          let days = and-split (nat_le 1 d) (nat_le d (days_in_month y m)) halves.1 in
          absurd
          (h (
            year,
            (pos-le 1 m (leb-true 1 m months.0), pos-le m 12 (leb-true m 12 months.1)),
            (
              pos-le 1 d (leb-true 1 d days.0),
              pos-le d (days_in_month y m) (leb-true d (days_in_month y m) days.1),
            ),
          )))
      | false ↦ (λ e. refl)
    ]
    refl

-- a count of days that goes on over days, months and years, from -9999-01-01, is the formula's
module _ (f : ℤ → ℕ → ℕ → ℤ)
    (on_day : (y : ℤ) (m d d₂ : ℕ) → 1 ≤ d → 1 ≤ d₂ → f y m d +ℤ pos d₂ ≡ f y m d₂ +ℤ pos d)
    (on_month : (y : ℤ) (m d : ℕ) → 1 ≤ m → d ≡ days_in_month y m → f y (m + 1) 1 ≡ f y m d +ℤ pos 1)
    (on_year : (y next : ℤ) → neg_ℤ (pos 10000) ≤ℤ y → next ≡ y +ℤ pos 1 → f next 1 1 ≡ f y 12 31 +ℤ pos 1)
    (first : f (neg_ℤ (pos 9999)) 1 1 ≡ neg_ℤ (pos 4_371_587)) where
  month_start : (y : ℤ) (n : ℕ) → f y (n + 1) 1 ≡ f y 1 1 +ℤ pos (days_of_months y n)
  unfolding days_of_months
  month_start y zero = omega (arith, ints)
  month_start y (suc n) =
      let last = days_in_month y (suc n) in
      let here : f y (suc n) 1 ≡ f y 1 1 +ℤ pos (days_of_months y n) = rw (← (add-one n)) (month_start y n) in
      let least = days_in_month_least y (suc n) in
      omega (
        arith,
        ints,
        on_month y (suc n) last (omega arith) refl,
        on_day y (suc n) last 1 least (omega arith),
        here,
      )

  year_start : (k : ℕ) (y : ℤ) → y ≡ pos k -ℤ pos 9999 → f y 1 1 +ℤ pos 719162 ≡ days_to_year y
  year_start zero y is = rw is (rw first refl)
  year_start (suc k) y is =
      let before = pos k -ℤ pos 9999 in
      let next : y ≡ before +ℤ pos 1 = omega (arith, ints) in
      let low : neg_ℤ (pos 10000) ≤ℤ before = omega (arith, ints) in
      let stepped = on_year before y low next in
      let months : f before 12 1 ≡ f before 1 1 +ℤ pos (days_of_months before 11) = month_start before 11 in
      let days = on_day before 12 31 1 (omega arith) (omega arith) in
      let start = year_start k before refl in
      rw next
      (omega (
        arith,
        ints,
        rw next at stepped,
        months,
        days,
        start,
        days_of_year before,
        days_to_year-next before,
      ))

  day_number_is : (y : ℤ) (m d : ℕ) → IsYear y → 1 ≤ m → 1 ≤ d → f y m d ≡ day_number y m d
  day_number_is y m d year month day =
      let back : (m - 1) + 1 ≡ m = omega arith in
      let months : f y m 1 ≡ f y 1 1 +ℤ pos (days_of_months y (m - 1)) = rw back at (month_start y (m - 1)) in
      let years = from_first_year y year in
      omega (arith, ints, months, on_day y m d 1 day (omega arith), year_start years.0 y years.1)

  pub epoch_is : (y : ℤ) (m d : ℕ) → y ≡ pos 1970 → pos m ≡ pos 1 → pos d ≡ pos 1 → f y m d ≡ pos 0
  unfolding days_of_months
  epoch_is y m d year month day =
      let first_month : m ≡ 1 = omega (arith, ints) in
      let first_day : d ≡ 1 = omega (arith, ints) in
      let counted : f (pos 1970) 1 1 ≡ day_number (pos 1970) 1 1 =
      day_number_is (pos 1970) 1 1 (omega (arith, ints), omega (arith, ints)) (omega arith)
      (omega arith) in
      rw (year, first_month, first_day) counted

  -- the date that was asked for has the number of its parts
  pub day_number_at : (y y' : ℤ) (m d m' d' : ℕ) → IsYear y → IsDate y (pos m) (pos d) → y' ≡ y
      → pos m' ≡ pos m → pos d' ≡ pos d → f y' m' d' ≡ day_number y m d
  day_number_at y y' m d m' d' in_range date year month day =
      let months : m' ≡ m = omega (arith, ints) in
      let days : d' ≡ d = omega (arith, ints) in
      let first_month : 1 ≤ m = omega (arith, ints) in
      let first_day : 1 ≤ d = omega (arith, ints) in
      rw (year, months, days) (day_number_is y m d in_range first_month first_day)

-- the numbers that a call takes are those of the date
pub same_date_parts : (y y' : ℤ) (m d : ℕ) (m' d' : ℤ) → y' ≡ y → m' ≡ pos m → d' ≡ pos d → IsDate y' m' d'
    → IsDate y (pos m) (pos d)
same_date_parts y y' m d m' d' year month day h = rw (year, month, day) at h

pub other_date_parts : (y y' : ℤ) (m d : ℕ) (m' d' : ℤ) → y' ≡ y → m' ≡ pos m → d' ≡ pos d
    → IsDate y (pos m) (pos d) → IsDate y' m' d'
other_date_parts y y' m d m' d' year month day h = rw (year, month, day) h
