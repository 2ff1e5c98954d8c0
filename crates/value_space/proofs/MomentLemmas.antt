-- What the parts of a moment make.
use Rattle.std.proofs.Common.{◌≡◌, ℕ, ◌+◌, ◌*◌, Bool, true, false, cond, nat_le, nat_lt, ◌&&◌, ◌||◌, Option}
use Rattle.std.proofs.Common.{Some, None, IfSome, List, length, refl, sym, ap, ◌∙◌, arith, ℤ, pos, ◌+ℤ◌, ◌-ℤ◌}
use Rattle.std.proofs.Common.{◌*ℤ◌}
use Rattle.std.proofs.lemmas.Int.{ints}
use Rattle.std.proofs.lemmas.Option.{none-some, same_Some}
use Rattle.std.proofs.Math.Bool.{and-false}
use Rattle.std.proofs.lemmas.Grind.{common_steps}
use Rattle.shx_term.specs.NumberForm.{is_minus, begins_with, number_of, without_trailing_zeros}
use Rattle.shx_term.specs.MomentForm.{fits, year_digits, day_pattern, moment_pattern, calendar_of, end_of}
use Rattle.shx_term.specs.MomentForm.{fraction_of, behind_fraction, is_day_form, is_moment_form, is_wide_day}
use Rattle.shx_term.specs.MomentForm.{is_wide_moment}
use Rattle.shx_term.specs.Datatypes.Space.{Moments, Days}
use Rattle.shx_term.specs.WideLiterals.{is_wide_in}
use Rattle.value_space.specs.declared.value.Value.TheVariants.{Stamp, Day, IllTyped}
use Rattle.value_space.specs.inner.DigitRuns.{narrow_fraction}
use Rattle.value_space.specs.Values.{value_in}
use Rattle.value_space.specs.Moments.{month_of, day_of, hour_of, minute_of, second_of, is_time, has_date}
use Rattle.value_space.specs.Moments.{day_of_text, nanos_of, zone_minutes, has_zone, moment_nanos, day_nanos}
use Rattle.value_space.specs.inner.MomentParts.{some_where, day_in_nanos, date_at, time_at, narrow_year}
use Rattle.value_space.proofs.DigitLemmas.{and-split}

some_where-true : (test : Bool) (x v : ℤ) → Some x ≡ some_where test v → (test ≡ true) × (x ≡ v)
some_where-true true x v h = (refl, same_Some x v h)
some_where-true false x v h = absurd (none-some x (sym h))

some_where-false : (test : Bool) (v : ℤ) → None ≡ some_where test v → test ≡ false
some_where-false true v h = absurd (none-some v h)
some_where-false false v h = refl

-- the date of a year of four digits
narrow_four : (text : List ℕ) → length (year_digits text) ≡ 4
    → narrow_year (year_digits text) ≡ Some (number_of (year_digits text))
narrow_four text four = rw four refl

pub date_of_text : (text calendar : List ℕ) (negative : Bool) (year : Option ℕ) (m d : ℕ) (r : Option ℤ)
    → length (year_digits text) ≡ 4
    → negative ≡ begins_with is_minus text → year ≡ narrow_year (year_digits text) → m ≡ month_of calendar
    → d ≡ day_of calendar
    → IfSome year (λ year. r ≡ date_at negative year m d)
    → r ≡ some_where (has_date text calendar) (day_in_nanos (day_of_text text calendar))
date_of_text text calendar negative year m d r four minus number month day h =
    let there : year ≡ Some (number_of (year_digits text)) = number ∙ narrow_four text four in
    rw four (rw (there, minus, month, day) at h)

-- a year of four digits
four_digits : (n : ℕ) → nat_le 4 n ≡ true → nat_lt 4 n ≡ false → n ≡ 4
four_digits n p q = grind (arith, common_steps)

or-split : (a b : Bool) → (a || b) ≡ false → a ≡ false
or-split a b h = grind arith

or-second : (a b : Bool) → (a || b) ≡ false → b ≡ false
or-second a b h = grind arith

narrow : (form wide : Bool) → form ≡ true → (form && wide) ≡ false → wide ≡ false
narrow form wide p q = rw p at q

moment_calendar : (text : List ℕ) → is_moment_form text ≡ true
    → (nat_le 4 (length (year_digits text)) && fits moment_pattern (calendar_of moment_pattern text)) ≡ true
moment_calendar text form =
    (and-split
    (nat_le 4 (length (year_digits text)) && fits moment_pattern (calendar_of moment_pattern text)) _
    form).0

pub moment_year : (text : List ℕ) → is_moment_form text ≡ true → is_wide_in Moments text ≡ false
    → length (year_digits text) ≡ 4
moment_year text form wide =
    let four =
    and-split (nat_le 4 (length (year_digits text)))
    (fits moment_pattern (calendar_of moment_pattern text)) (moment_calendar text form) in
    four_digits (length (year_digits text)) four.0
    (or-split (is_wide_day text) _ (narrow (is_moment_form text) (is_wide_moment text) form wide))

-- the time of a fraction of at most nine digits
pub time_of_text : (text : List ℕ) (h m s : ℕ) (nanos : Option ℕ) (r : Option ℤ) → is_moment_form text ≡ true
    → is_wide_in Moments text ≡ false
    → h ≡ hour_of (calendar_of moment_pattern text) → m ≡ minute_of (calendar_of moment_pattern text)
    → s ≡ second_of (calendar_of moment_pattern text)
    → nanos ≡ narrow_fraction 9 (fraction_of (end_of moment_pattern text))
    → IfSome nanos (λ nanos. r ≡ time_at h m s nanos)
    → r
    ≡ time_at (hour_of (calendar_of moment_pattern text)) (minute_of (calendar_of moment_pattern text))
    (second_of (calendar_of moment_pattern text)) (nanos_of (end_of moment_pattern text))
time_of_text text h m s nanos r form wide hour minute second value timed =
    let end = end_of moment_pattern text in
    let short : nat_lt 9 (length (without_trailing_zeros (fraction_of end))) ≡ false =
    or-second (is_wide_day text) _ (narrow (is_moment_form text) (is_wide_moment text) form wide) in
    let there : nanos ≡ Some (nanos_of end) = value ∙ ap (λ t. cond t None (Some (nanos_of end))) short in
    rw (there, hour, minute, second) at timed

day_calendar : (text : List ℕ) → is_day_form text ≡ true
    → (nat_le 4 (length (year_digits text)) && fits day_pattern (calendar_of day_pattern text)) ≡ true
day_calendar text form =
    (and-split
    (nat_le 4 (length (year_digits text)) && fits day_pattern (calendar_of day_pattern text)) _ form).0

pub day_year : (text : List ℕ) → is_day_form text ≡ true → is_wide_in Days text ≡ false
    → length (year_digits text) ≡ 4
day_year text form wide =
    let four =
    and-split (nat_le 4 (length (year_digits text))) (fits day_pattern (calendar_of day_pattern text))
    (day_calendar text form) in
    four_digits (length (year_digits text)) four.0 (narrow (is_day_form text) (is_wide_day text) form wide)

moment_sum : (d : ℤ) (h m s n : ℕ) (minutes day time zone nanos : ℤ) → day ≡ d *ℤ pos 86_400_000_000_000
    → time ≡ pos ((h * 3600 + m * 60 + s) * 1_000_000_000 + n) → zone ≡ minutes *ℤ pos 60_000_000_000
    → nanos ≡ (day +ℤ time) -ℤ zone
    → nanos
    ≡ ((d *ℤ pos 86400 +ℤ pos (h * 3600 + m * 60 + s)) -ℤ minutes *ℤ pos 60) *ℤ pos 1_000_000_000 +ℤ pos n
moment_sum d h m s n minutes day time zone nanos p q r sum = omega (arith, ints)

day_sum : (d minutes day zone nanos : ℤ) → day ≡ d *ℤ pos 86_400_000_000_000
    → zone ≡ minutes *ℤ pos 60_000_000_000 → nanos ≡ day -ℤ zone
    → nanos ≡ (d *ℤ pos 86400 -ℤ minutes *ℤ pos 60) *ℤ pos 1_000_000_000
day_sum d minutes day zone nanos p q sum = omega (arith, ints)

-- the value of a form whose date and time there are
pub stamp_is : (text : List ℕ) (day time zone nanos : ℤ) (zoned : Bool) → is_moment_form text ≡ true
    → Some day
    ≡ some_where (has_date text (calendar_of moment_pattern text))
    (day_in_nanos (day_of_text text (calendar_of moment_pattern text)))
    → Some time
    ≡ time_at (hour_of (calendar_of moment_pattern text)) (minute_of (calendar_of moment_pattern text))
    (second_of (calendar_of moment_pattern text)) (nanos_of (end_of moment_pattern text))
    → zone ≡ zone_minutes (behind_fraction (end_of moment_pattern text)) *ℤ pos 60_000_000_000
    → zoned ≡ has_zone (behind_fraction (end_of moment_pattern text))
    → nanos ≡ (day +ℤ time) -ℤ zone → Stamp nanos zoned ≡ value_in Moments text
stamp_is text day time zone nanos zoned form date clock ahead marked sum =
    let calendar = calendar_of moment_pattern text in
    let end = end_of moment_pattern text in
    let found =
    some_where-true (has_date text calendar) day (day_in_nanos (day_of_text text calendar)) date in
    let timed =
    some_where-true
    (is_time (hour_of calendar) (minute_of calendar) (second_of calendar) (nanos_of end)) time _ clock
    in
    let total : nanos ≡ moment_nanos text =
    moment_sum (day_of_text text calendar) (hour_of calendar) (minute_of calendar) (second_of calendar)
    (nanos_of end)
    (zone_minutes (behind_fraction end)) day time zone nanos found.1 timed.1 ahead sum in
    rw (form, found.0, timed.0) (ap (λ n. Stamp n zoned) total ∙ ap (λ z. Stamp (moment_nanos text) z) marked)

pub no_date : (text : List ℕ) → is_moment_form text ≡ true
    → None
    ≡ some_where (has_date text (calendar_of moment_pattern text))
    (day_in_nanos (day_of_text text (calendar_of moment_pattern text)))
    → IllTyped ≡ value_in Moments text
no_date text form date =
    rw (form, some_where-false (has_date text (calendar_of moment_pattern text)) _ date) refl

pub no_time : (text : List ℕ) → is_moment_form text ≡ true
    → None
    ≡ time_at (hour_of (calendar_of moment_pattern text)) (minute_of (calendar_of moment_pattern text))
    (second_of (calendar_of moment_pattern text)) (nanos_of (end_of moment_pattern text))
    → IllTyped ≡ value_in Moments text
no_time text form clock =
    let calendar = calendar_of moment_pattern text in
    let end = end_of moment_pattern text in
    rw (
      form,
      some_where-false
          (is_time (hour_of calendar) (minute_of calendar) (second_of calendar) (nanos_of end)) _ clock,
      and-false,
    )
    refl

pub day_is : (text : List ℕ) (day zone nanos : ℤ) (zoned : Bool) → is_day_form text ≡ true
    → Some day
    ≡ some_where (has_date text (calendar_of day_pattern text))
    (day_in_nanos (day_of_text text (calendar_of day_pattern text)))
    → zone ≡ zone_minutes (end_of day_pattern text) *ℤ pos 60_000_000_000
    → zoned ≡ has_zone (end_of day_pattern text)
    → nanos ≡ day -ℤ zone → Day nanos zoned ≡ value_in Days text
day_is text day zone nanos zoned form date ahead marked sum =
    let calendar = calendar_of day_pattern text in
    let found =
    some_where-true (has_date text calendar) day (day_in_nanos (day_of_text text calendar)) date in
    let total : nanos ≡ day_nanos text =
    day_sum (day_of_text text calendar)
    (zone_minutes (end_of day_pattern text)) day zone nanos found.1 ahead sum in
    rw (form, found.0) (ap (λ n. Day n zoned) total ∙ ap (λ z. Day (day_nanos text) z) marked)

pub no_day : (text : List ℕ) → is_day_form text ≡ true
    → None
    ≡ some_where (has_date text (calendar_of day_pattern text))
    (day_in_nanos (day_of_text text (calendar_of day_pattern text)))
    → IllTyped ≡ value_in Days text
no_day text form date = rw (form, some_where-false (has_date text (calendar_of day_pattern text)) _ date) refl
