-- The moment of a lexical form, in nanoseconds from 1970-01-01T00:00:00 of the proleptic Gregorian calendar
-- (XML Schema 1.1 part 2, appendix E.3).
use Rattle.std.specs.Prelude.{ℕ, zero, suc, ◌+◌, ◌-◌, ◌*◌, Bool, not, ◌&&◌, ◌||◌, ◌==◌, nat_le, nat_eq, ℤ}
use Rattle.std.specs.Prelude.{pos, neg_ℤ, ◌+ℤ◌, ◌-ℤ◌, ◌*ℤ◌, List, [], take, drop, length, if◌then◌else◌}
use Rattle.std.specs.Int.{int_div_euclid}
use Rattle.std.specs.Cmp.Lexicographic.{pointwise}
use Rattle.jiff.specs.Words.{days_in_month}
use Rattle.shx_term.specs.NumberForm.{is_minus, begins_with, number_of, is_sign}
use Rattle.shx_term.specs.MomentForm.{year_digits, day_pattern, moment_pattern, calendar_of, end_of}
use Rattle.shx_term.specs.MomentForm.{fraction_of, behind_fraction, is_day_form, is_moment_form, offset_hours}
use Rattle.shx_term.specs.MomentForm.{offset_minutes}
use Rattle.value_space.specs.Numbers.{number_in_places}

-- the days from 0001-01-01 to the first day of the year: 365 for each year, and one for each leap year
abbrev pub days_to_year : ℤ → ℤ
days_to_year year =
    let before = year -ℤ pos 1 in
    pos 365 *ℤ before
    +ℤ (int_div_euclid before (pos 4) -ℤ int_div_euclid before (pos 100) +ℤ int_div_euclid before (pos 400))

-- the days of the first months of a year
unfoldable pub days_of_months : ℤ → ℕ → ℕ
days_of_months year zero = 0
days_of_months year (suc months) = days_of_months year months + days_in_month year (suc months)

-- the days from 1970-01-01, which is the day 719163 from 0001-01-01, counted from 1
abbrev pub day_number : ℤ → ℕ → ℕ → ℤ
day_number year month day = days_to_year year +ℤ pos (days_of_months year (month - 1) + day) -ℤ pos 719163

-- the year: 0000 is the one before 0001, and -0001 the one before that
abbrev pub year_of : List ℕ → ℤ
year_of text =
    if begins_with is_minus text then neg_ℤ (pos (number_of (year_digits text)))
    else pos (number_of (year_digits text))

-- two digits at a place of the part -MM-DDThh:mm:ss
abbrev two_digits : ℕ → List ℕ → ℕ
two_digits place calendar = number_of (take 2 (drop place calendar))

abbrev pub month_of : List ℕ → ℕ
month_of calendar = two_digits 1 calendar

abbrev pub day_of : List ℕ → ℕ
day_of calendar = two_digits 4 calendar

abbrev pub hour_of : List ℕ → ℕ
hour_of calendar = two_digits 7 calendar

abbrev pub minute_of : List ℕ → ℕ
minute_of calendar = two_digits 10 calendar

abbrev pub second_of : List ℕ → ℕ
second_of calendar = two_digits 13 calendar

-- a year of four digits, which is not -0000
abbrev pub is_year : List ℕ → Bool
is_year text =
    (length (year_digits text) == 4) && not (begins_with is_minus text && (number_of (year_digits text) == 0))

-- the calendar has the month and the day
abbrev pub is_date : ℤ → ℕ → ℕ → Bool
is_date year month day =
    (nat_le 1 month && nat_le month 12) && (nat_le 1 day && nat_le day (days_in_month year month))

-- a time from 00:00:00 to 23:59:59, or 24:00:00 without a fraction
abbrev pub is_time : ℕ → ℕ → ℕ → ℕ → Bool
is_time hour minute second nanos =
    (nat_le hour 23 && (nat_le minute 59 && nat_le second 59))
    || ((hour == 24) && ((minute == 0) && ((second == 0) && (nanos == 0))))

abbrev pub has_date : List ℕ → List ℕ → Bool
has_date text calendar = is_year text && is_date (year_of text) (month_of calendar) (day_of calendar)

-- the nanoseconds of a fraction of a second
abbrev pub nanos_of : List ℕ → ℕ
nanos_of end = number_in_places 9 (fraction_of end)

-- the minutes of a zone, east of Greenwich
abbrev pub zone_minutes : List ℕ → ℤ
zone_minutes zone =
    if begins_with is_minus zone then neg_ℤ (pos (offset_hours zone * 60 + offset_minutes zone))
    else (if begins_with is_sign zone then pos (offset_hours zone * 60 + offset_minutes zone)
    else pos 0)

abbrev pub has_zone : List ℕ → Bool
has_zone zone = not (pointwise nat_eq zone [])

-- the number of the day of a text
abbrev pub day_of_text : List ℕ → List ℕ → ℤ
day_of_text text calendar = day_number (year_of text) (month_of calendar) (day_of calendar)

-- the seconds of a zone's clock, without those by which it is ahead
abbrev pub at_zone : ℤ → List ℕ → ℤ
at_zone seconds zone = seconds -ℤ zone_minutes zone *ℤ pos 60

-- a moment that a dateTime may write
abbrev pub is_moment : List ℕ → Bool
is_moment text =
    let calendar = calendar_of moment_pattern text in
    let nanos = nanos_of (end_of moment_pattern text) in
    is_moment_form text
    && (has_date text calendar && is_time (hour_of calendar) (minute_of calendar) (second_of calendar) nanos)

abbrev pub moment_seconds : List ℕ → ℤ
moment_seconds text =
    let calendar = calendar_of moment_pattern text in
    let clock = hour_of calendar * 3600 + minute_of calendar * 60 + second_of calendar in
    let seconds = day_of_text text calendar *ℤ pos 86400 +ℤ pos clock in
    at_zone seconds (behind_fraction (end_of moment_pattern text))

-- its nanoseconds: at 24:00:00 these are those of the next midnight
abbrev pub moment_nanos : List ℕ → ℤ
moment_nanos text = moment_seconds text *ℤ pos 1_000_000_000 +ℤ pos (nanos_of (end_of moment_pattern text))

abbrev pub moment_zoned : List ℕ → Bool
moment_zoned text = has_zone (behind_fraction (end_of moment_pattern text))

-- a day that a date may write, and the nanoseconds of its first moment
abbrev pub is_day : List ℕ → Bool
is_day text = is_day_form text && has_date text (calendar_of day_pattern text)

abbrev pub day_nanos : List ℕ → ℤ
day_nanos text =
    let midnight = day_of_text text (calendar_of day_pattern text) *ℤ pos 86400 in
    at_zone midnight (end_of day_pattern text) *ℤ pos 1_000_000_000

abbrev pub day_zoned : List ℕ → Bool
day_zoned text = has_zone (end_of day_pattern text)
