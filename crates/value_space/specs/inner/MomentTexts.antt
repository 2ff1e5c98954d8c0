-- What is read of the forms of moments and days.
use Rattle.std.specs.Prelude.{◌≡◌, ℕ, true, List, take, drop}
use Rattle.shx_term.specs.NumberForm.{is_minus, begins_with, number_of}
use Rattle.shx_term.specs.MomentForm.{year_digits, behind_year, day_pattern, moment_pattern, calendar_of}
use Rattle.shx_term.specs.MomentForm.{end_of, fraction_of, behind_fraction, is_day_form, is_moment_form}
use Rattle.value_space.specs.declared.moment_text.DateText.{DateText}
use Rattle.value_space.specs.declared.moment_text.DayText.{DayText}
use Rattle.value_space.specs.declared.moment_text.MomentText.{MomentText}
use Rattle.value_space.specs.inner.DigitRuns.{narrow_fraction}
use Rattle.value_space.specs.Moments.{month_of, day_of, hour_of, minute_of, second_of, zone_minutes, has_zone}
use Rattle.value_space.specs.inner.MomentParts.{narrow_year, has_date_text}

-- what is read of year, month and day
pub record IsDateText (text : List ℕ) (date : DateText) (behind : List ℕ) : Type 0 where
  pub form : has_date_text text ≡ true
  pub negative : date.negative ≡ begins_with is_minus text
  pub year : date.year ≡ narrow_year (year_digits text)
  pub month : date.month ≡ number_of (take 2 (drop 1 (behind_year text)))
  pub day : date.day ≡ number_of (take 2 (drop 4 (behind_year text)))
  pub rest : behind ≡ drop 6 (behind_year text)

-- the date of a text, of which a pattern's part has month and day
pub record IsDateOf (text calendar : List ℕ) (date : DateText) : Type 0 where
  pub negative : date.negative ≡ begins_with is_minus text
  pub year : date.year ≡ narrow_year (year_digits text)
  pub month : date.month ≡ month_of calendar
  pub day : date.day ≡ day_of calendar

-- what is read of a day
pub record IsDayText (text : List ℕ) (read : DayText) : Type 0 where
  pub form : is_day_form text ≡ true
  pub date : IsDateOf text (calendar_of day_pattern text) read.date
  pub zoned : read.zoned ≡ has_zone (end_of day_pattern text)
  pub zone : read.zone ≡ zone_minutes (end_of day_pattern text)

-- what is read of a moment
pub record IsMomentText (text : List ℕ) (read : MomentText) : Type 0 where
  pub form : is_moment_form text ≡ true
  pub date : IsDateOf text (calendar_of moment_pattern text) read.date
  pub hour : read.hour ≡ hour_of (calendar_of moment_pattern text)
  pub minute : read.minute ≡ minute_of (calendar_of moment_pattern text)
  pub second : read.second ≡ second_of (calendar_of moment_pattern text)
  pub nanos : read.nanos ≡ narrow_fraction 9 (fraction_of (end_of moment_pattern text))
  pub zoned : read.zoned ≡ has_zone (behind_fraction (end_of moment_pattern text))
  pub zone : read.zone ≡ zone_minutes (behind_fraction (end_of moment_pattern text))
