-- The lexical forms of xsd:dateTime and xsd:date (XML Schema 1.1 part 2, sections 3.3.7 and 3.3.9): a year of
-- four digits or more, with or without a minus; month and day; hours, minutes, seconds and their fraction;
-- and a zone or none. A form is met by any digits in these places.
use Rattle.std.specs.Prelude.{ℕ, Bool, true, false, not, ◌&&◌, ◌||◌, ◌==◌, nat_le, nat_lt, nat_eq, List, []}
use Rattle.std.specs.Prelude.{◌∷◌, take, drop, length, if◌then◌else◌, codes}
use Rattle.std.specs.List.{take_while}
use Rattle.std.specs.Cmp.Lexicographic.{pointwise}
use Rattle.shx_term.specs.NumberForm.{is_digit, is_minus, is_sign, is_point, begins_with, without_first}
use Rattle.shx_term.specs.NumberForm.{are_digits, number_of, without_trailing_zeros}

-- a text as long as the pattern, with some digit for each 0 of the pattern and every other character as it
-- stands there
abbrev pub fits : List ℕ → List ℕ → Bool
fits [] [] = true
fits [] (b ∷ bs) = false
fits (p ∷ ps) [] = false
fits (p ∷ ps) (b ∷ bs) = (if p == 48 then is_digit b else b == p) && fits ps bs

-- the digits of the year, and what stands behind them
abbrev pub year_digits : List ℕ → List ℕ
year_digits text = take_while is_digit (without_first is_minus text)

abbrev pub behind_year : List ℕ → List ℕ
behind_year text = drop (length (year_digits text)) (without_first is_minus text)

abbrev pub day_pattern : List ℕ
day_pattern = codes "-00-00"

abbrev pub moment_pattern : List ℕ
moment_pattern = codes "-00-00T00:00:00"

-- the part of a text that a pattern speaks of, and what stands behind it
abbrev pub calendar_of : List ℕ → List ℕ → List ℕ
calendar_of pattern text = take (length pattern) (behind_year text)

abbrev pub end_of : List ℕ → List ℕ → List ℕ
end_of pattern text = drop (length pattern) (behind_year text)

-- the digits of a fraction that such an end begins with, and what stands behind them
abbrev pub fraction_of : List ℕ → List ℕ
fraction_of end = if begins_with is_point end then take_while is_digit (drop 1 end) else []

abbrev pub behind_fraction : List ℕ → List ℕ
behind_fraction end = if begins_with is_point end then drop (length (fraction_of end)) (drop 1 end) else end

-- hours and minutes to 13:59, or 14:00
abbrev pub is_offset_time : ℕ → ℕ → Bool
is_offset_time hours minutes = (nat_le hours 13 && nat_le minutes 59) || ((hours == 14) && (minutes == 0))

abbrev pub offset_hours : List ℕ → ℕ
offset_hours zone = number_of (take 2 (drop 1 zone))

abbrev pub offset_minutes : List ℕ → ℕ
offset_minutes zone = number_of (drop 4 zone)

-- a sign, hours and minutes
abbrev pub is_offset : List ℕ → Bool
is_offset zone = begins_with is_sign zone
    && (fits (codes "00:00") (drop 1 zone) && is_offset_time (offset_hours zone) (offset_minutes zone))

-- no zone, `Z`, or an offset
abbrev pub is_zone : List ℕ → Bool
is_zone zone = pointwise nat_eq zone [] || (pointwise nat_eq zone (codes "Z") || is_offset zone)

abbrev has_calendar : List ℕ → List ℕ → Bool
has_calendar pattern text = nat_le 4 (length (year_digits text)) && fits pattern (calendar_of pattern text)

abbrev pub is_day_form : List ℕ → Bool
is_day_form text = has_calendar day_pattern text && is_zone (end_of day_pattern text)

-- an end without a fraction, or with one of some digits
abbrev pub has_good_fraction : List ℕ → Bool
has_good_fraction end = not (begins_with is_point end) || are_digits (fraction_of end)

abbrev pub is_moment_form : List ℕ → Bool
is_moment_form text =
    has_calendar moment_pattern text
    && (has_good_fraction (end_of moment_pattern text)
    && is_zone (behind_fraction (end_of moment_pattern text)))

-- a year of more than four digits, or a fraction of more than nine
abbrev pub is_wide_day : List ℕ → Bool
is_wide_day text = nat_lt 4 (length (year_digits text))

abbrev pub is_wide_moment : List ℕ → Bool
is_wide_moment text = is_wide_day text
    || nat_lt 9 (length (without_trailing_zeros (fraction_of (end_of moment_pattern text))))
