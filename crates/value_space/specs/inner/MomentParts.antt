-- Parts of a moment that code reads and counts one by one.
use Rattle.std.specs.Prelude.{◌≡◌, ℕ, Bool, true, not, ◌&&◌, ◌==◌, ◌*◌, ◌+◌, ◌^◌, ◌<◌, ◌*ℤ◌, ◌≤ℤ◌}
use Rattle.std.specs.Prelude.{neg_ℤ, ℤ, pos, nat_le, nat_lt, List, [], ◌∷◌, take, drop, length, Option, Some}
use Rattle.std.specs.Prelude.{None, IfSome, if◌then◌else◌, codes}
use Rattle.std.specs.List.{take_while}
use Rattle.shx_term.specs.NumberForm.{is_digit, number_of}
use Rattle.shx_term.specs.MomentForm.{fits, year_digits, behind_year, day_pattern, fraction_of}
use Rattle.shx_term.specs.MomentForm.{has_good_fraction, behind_fraction, is_zone, is_offset_time}
use Rattle.value_space.specs.inner.DigitRuns.{narrow_fraction, signed}
use Rattle.value_space.specs.Moments.{is_date, is_time, day_number, zone_minutes}

-- the number of four digits; one of more is none
abbrev pub narrow_year : List ℕ → Option ℕ
narrow_year digits = if nat_lt 4 (length digits) then None else Some (number_of digits)

-- what is read of two digits
pub record IsTwoDigits (tens ones number : ℕ) : Type 0 where
  pub digits : (is_digit tens && is_digit ones) ≡ true
  pub value : number ≡ number_of (tens ∷ ones ∷ [])
  pub below : number < 100

-- the four digits of an offset
abbrev pub is_offset_of : ℕ → ℕ → ℕ → ℕ → Bool
is_offset_of a b c d =
    ((is_digit a && is_digit b) && (is_digit c && is_digit d))
    && is_offset_time (number_of (a ∷ b ∷ [])) (number_of (c ∷ d ∷ []))

pub record IsOffset (a b c d : ℕ) (minutes : ℤ) : Type 0 where
  pub form : is_offset_of a b c d ≡ true
  pub value : minutes ≡ pos (number_of (a ∷ b ∷ []) * 60 + number_of (c ∷ d ∷ []))
  pub high : minutes ≤ℤ pos 10_000

pub record IsZoneText (text : List ℕ) (minutes : ℤ) : Type 0 where
  pub form : is_zone text ≡ true
  pub value : minutes ≡ zone_minutes text

-- far from the ends of what 16 bits hold
pub record IsFew (minutes : ℤ) : Type 0 where
  pub low : neg_ℤ (pos 10_000) ≤ℤ minutes
  pub high : minutes ≤ℤ pos 10_000

-- a text that begins with four digits or more
abbrev pub has_year : List ℕ → Bool
has_year text = nat_le 4 (length (take_while is_digit text))

pub record IsYearText (text : List ℕ) (year : Option ℕ) (behind : List ℕ) : Type 0 where
  pub form : has_year text ≡ true
  pub value : year ≡ narrow_year (take_while is_digit text)
  pub below : IfSome year (λ year. year < 10 ^ 4)
  pub rest : behind ≡ drop (length (take_while is_digit text)) text

-- a text that begins with month and day
abbrev pub has_calendar : List ℕ → Bool
has_calendar text = fits day_pattern (take 6 text)

pub record IsCalendar (text : List ℕ) (m d : ℕ) (behind : List ℕ) : Type 0 where
  pub form : has_calendar text ≡ true
  pub month : m ≡ number_of (take 2 (drop 1 text))
  pub day : d ≡ number_of (take 2 (drop 4 text))
  pub month_below : m < 100
  pub day_below : d < 100
  pub rest : behind ≡ drop 6 text

-- a text that begins with hours, minutes and seconds
abbrev pub clock_pattern : List ℕ
clock_pattern = codes "T00:00:00"

abbrev pub has_clock : List ℕ → Bool
has_clock text = fits clock_pattern (take 9 text)

pub record IsClock (text : List ℕ) (h m s : ℕ) (behind : List ℕ) : Type 0 where
  pub form : has_clock text ≡ true
  pub hour : h ≡ number_of (take 2 (drop 1 text))
  pub minute : m ≡ number_of (take 2 (drop 4 text))
  pub second : s ≡ number_of (take 2 (drop 7 text))
  pub rest : behind ≡ drop 9 text

-- what is read of a fraction of a second, or of none
pub record IsNanos (end : List ℕ) (nanos : Option ℕ) (behind : List ℕ) : Type 0 where
  pub form : has_good_fraction end ≡ true
  pub value : nanos ≡ narrow_fraction 9 (fraction_of end)
  pub below : IfSome nanos (λ nanos. nanos < 10 ^ 9)
  pub rest : behind ≡ behind_fraction end

-- a text that begins with year, month and day
abbrev pub has_date_text : List ℕ → Bool
has_date_text text = nat_le 4 (length (year_digits text)) && has_calendar (behind_year text)

abbrev pub some_where : {A : Type 0} → Bool → A → Option A
some_where test value = if test then Some value else None

-- the nanoseconds of a day of 24 hours, of a date and of a time
abbrev pub day_in_nanos : ℤ → ℤ
day_in_nanos day = day *ℤ pos 86_400_000_000_000

abbrev pub date_at : Bool → ℕ → ℕ → ℕ → Option ℤ
date_at negative year month day =
    some_where (not (negative && (year == 0)) && is_date (signed negative year) month day)
    (day_in_nanos (day_number (signed negative year) month day))

abbrev pub time_at : ℕ → ℕ → ℕ → ℕ → Option ℤ
time_at hour minute second nanos =
    some_where (is_time hour minute second nanos)
    (pos ((hour * 3600 + minute * 60 + second) * 1_000_000_000 + nanos))

-- far from the ends of what 128 bits hold
pub record IsSmall (nanos : ℤ) : Type 0 where
  pub low : neg_ℤ (pos (10 ^ 30)) ≤ℤ nanos
  pub high : nanos ≤ℤ pos (10 ^ 30)
