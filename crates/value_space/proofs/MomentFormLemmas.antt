-- The parts of the forms of moments and days, read in turn.
use Rattle.std.proofs.Common.{◌≡◌, ℕ, suc, ◌+◌, ◌^◌, ◌<◌, ◌≤◌, Bool, true, false, cond, not, nat_le, nat_lt}
use Rattle.std.proofs.Common.{eqb, ◌&&◌, List, [], ◌∷◌, Option, Some, None, IfSome, length, take, drop, refl}
use Rattle.std.proofs.Common.{sym, ap, inl, inr, ◌∙◌, arith, length-append, ℤ, to_z, of_z, w16}
use Rattle.std.specs.List.{take_while}
use Rattle.std.specs.Prelude.{FitsSigned}
use Rattle.std.proofs.Math.Bool.{and-false}
use Rattle.std.proofs.lemmas.Int.{ints, to_z-of_z}
use Rattle.std.proofs.lemmas.Bool.{false≢true}
use Rattle.std.proofs.lemmas.Grind.{common_steps}
use Rattle.std.proofs.lemmas.List.{drop-drop}
use Rattle.std.proofs.lemmas.List.Sums.{take_while-cons}
use Rattle.std.proofs.lemmas.Option.{none-some, same_Some}
use Rattle.shx_term.specs.NumberForm.{is_digit, is_point, begins_with, without_first, are_digits, number_of}
use Rattle.shx_term.specs.NumberForm.{without_leading_zeros}
use Rattle.shx_term.specs.MomentForm.{fits, year_digits, behind_year, day_pattern, fraction_of}
use Rattle.shx_term.specs.MomentForm.{has_good_fraction, behind_fraction, is_zone, is_moment_form}
use Rattle.value_space.specs.declared.moment_text.DateText.{DateText}
use Rattle.value_space.specs.declared.moment_text.DayText.{DayText}
use Rattle.value_space.specs.declared.moment_text.MomentText.{MomentText}
use Rattle.value_space.specs.inner.DigitRuns.{behind_digits, narrow_number, narrow_fraction}
use Rattle.value_space.specs.Moments.{has_zone, zone_minutes}
use Rattle.value_space.specs.inner.MomentParts.{has_year, IsYearText, clock_pattern, has_clock, IsClock}
use Rattle.value_space.specs.inner.MomentParts.{IsNanos, has_date_text, IsZoneText, IsFew}
use Rattle.value_space.specs.inner.MomentTexts.{IsDateText, IsDateOf, IsDayText, IsMomentText}
use Rattle.value_space.proofs.CanonicalLemmas.{number_in_places-below}
use Rattle.value_space.proofs.DigitLemmas.{order, number_of-below}
use Rattle.value_space.proofs.FormLemmas.{take_while-all, and-group, fits-append, in_front}
use Rattle.value_space.proofs.NumeralLemmas.{is_below, not_below}
use Rattle.value_space.proofs.NumeralFormLemmas.{digits_then_rest, nonempty_digits}

behind-drop : (text : List ℕ) → behind_digits text ≡ drop (length (take_while is_digit text)) text
behind-drop [] = refl
behind-drop (b ∷ bs) =
    elim (is_digit b) as (λ t. cond t (behind_digits bs) (b ∷ bs)
    ≡ drop (length (cond t (b ∷ take_while is_digit bs) [])) (b ∷ bs))
    [ true ↦ behind-drop bs | false ↦ refl ]
    ∙ sym (ap (λ ds. drop (length ds) (b ∷ bs)) (take_while-cons is_digit b bs))

pub digits-length : (text : List ℕ)
    → length (take_while is_digit text) + length (behind_digits text) ≡ length text
digits-length text =
    sym (length-append (take_while is_digit text) (behind_digits text)) ∙ ap length (digits_then_rest text)

narrowed : (wide : Bool) (v n : ℕ) → Some n ≡ cond wide None (Some v) → n ≡ v
narrowed true v n h = absurd (none-some n (sym h))
narrowed false v n h = same_Some n v h

significant-short : (ds : List ℕ) → length (without_leading_zeros ds) ≤ length ds
significant-short [] = omega arith
significant-short (d ∷ ds) =
    elim (eqb d 48) as (λ t. length (cond t (without_leading_zeros ds) (d ∷ ds)) ≤ suc (length ds))
    [ true ↦ omega (arith, significant-short ds) | false ↦ omega arith ]

pub none_is_long : (ds : List ℕ) → None ≡ narrow_number ds → 4 < length ds
none_is_long ds h =
    elim (order 38 (length (without_leading_zeros ds))) as (λ _. 4 < length ds) [
      | inl many ↦ omega (arith, significant-short ds)
      | inr few ↦ absurd
          (none-some (number_of ds)
          (h
          ∙ ap (λ t. cond t None (Some (number_of ds)))
          (not_below 38 (length (without_leading_zeros ds)) few)))
    ]

-- the year
short_year : (n : ℕ) → n < 4 → nat_le 4 n ≡ false
short_year n h = grind (arith, common_steps)

long_year : (n : ℕ) → 4 < n → nat_le 4 n ≡ true
long_year n h = grind (arith, common_steps)

pub no_year : (text : List ℕ) → length (take_while is_digit text) < 4 → has_year text ≡ false
no_year text h = short_year (length (take_while is_digit text)) h

pub year_below : (text : List ℕ) (n : ℕ) → length (take_while is_digit text) ≡ 4
    → Some n ≡ narrow_number (take_while is_digit text) → n < 10 ^ 4
year_below text n four h =
    let digits = take_while is_digit text in
    let below : number_of digits < 10 ^ 4 =
    rw four at (number_of-below digits (take_while-all is_digit text)) in
    omega (arith, below, narrowed _ (number_of digits) n h)

pub year_of_four : (text : List ℕ) (n : ℕ) (behind : List ℕ) → length (take_while is_digit text) ≡ 4
    → Some n ≡ narrow_number (take_while is_digit text) → behind ≡ behind_digits text
    → IsYearText text (Some n) behind
year_of_four text n behind four h rest =
    let digits = take_while is_digit text in
    record {
      form = ap (nat_le 4) four;
      value =
          ap Some (narrowed _ (number_of digits) n h)
          ∙ sym (ap (λ k. cond (nat_lt 4 k) None (Some (number_of digits))) four);
      below = year_below text n four h;
      rest = rest ∙ behind-drop text;
    }

pub year_of_more : (text behind : List ℕ) → 4 < length (take_while is_digit text)
    → behind ≡ behind_digits text → IsYearText text None behind
year_of_more text behind long rest =
    let digits = take_while is_digit text in
    record {
      form = long_year (length digits) long;
      value = sym (ap (λ t. cond t None (Some (number_of digits))) (is_below 4 (length digits) long));
      below = tt;
      rest = rest ∙ behind-drop text;
    }

-- the fraction of a second
behind_point : (end : List ℕ) → begins_with is_point end ≡ true → without_first is_point end ≡ drop 1 end
behind_point [] h = absurd (false≢true h)
behind_point (b ∷ bs) h = rw h refl

empty_digits : (xs : List ℕ) → length xs ≡ 0 → are_digits xs ≡ false
empty_digits [] h = refl
empty_digits (x ∷ xs) h = absurd (omega arith)

pub no_nanos : (end : List ℕ) → begins_with is_point end ≡ true
    → length (behind_digits (without_first is_point end)) ≡ length (without_first is_point end)
    → has_good_fraction end ≡ false
no_nanos end point h =
    let all = without_first is_point end in
    let none : length (take_while is_digit all) ≡ 0 = omega (arith, digits-length all, h) in
    rw point
    (ap (λ ds. are_digits (take_while is_digit ds)) (sym (behind_point end point))
    ∙ empty_digits (take_while is_digit all) none)

pub nanos_below : (text : List ℕ) (n : ℕ) → Some n ≡ narrow_fraction 9 (take_while is_digit text) → n < 10 ^ 9
nanos_below text n h =
    omega (
      arith,
      number_in_places-below 9 (take_while is_digit text) (take_while-all is_digit text),
      narrowed _ _ n h,
    )

pub is_nanos : (end : List ℕ) (nanos : Option ℕ) (behind : List ℕ) → begins_with is_point end ≡ true
    → nanos ≡ narrow_fraction 9 (take_while is_digit (without_first is_point end))
    → behind ≡ behind_digits (without_first is_point end)
    → (length (behind_digits (without_first is_point end)) ≡ length (without_first is_point end) → ⊥)
    → IfSome nanos (λ nanos. nanos < 10 ^ 9) → IsNanos end nanos behind
is_nanos end nanos behind point value rest some below =
    let all = without_first is_point end in
    let same = behind_point end point in
    let long : 0 < length (take_while is_digit all) =
    elim (order 0 (length (take_while is_digit all))) as (λ _. 0 < length (take_while is_digit all))
    [ inl lt ↦ lt | inr le ↦ absurd (some (omega (arith, digits-length all))) ] in
    let digits : fraction_of end ≡ take_while is_digit all = rw point (ap (take_while is_digit) (sym same)) in
    record {
      form =
          rw point
          (ap (λ ds. are_digits (take_while is_digit ds)) (sym same)
          ∙ nonempty_digits (take_while is_digit all) (take_while-all is_digit all) long);
      value = value ∙ sym (ap (narrow_fraction 9) digits);
      below = below;
      rest = rest ∙ ap behind_digits same ∙ behind-drop (drop 1 end) ∙ sym (rw point refl);
    }

-- whether there is a zone
not_empty : (n : ℕ) → eqb (suc n) 0 ≡ false
not_empty n = grind (arith, common_steps)

pub marks_zone : (zone : List ℕ) (empty : Bool) → empty ≡ eqb (length zone) 0 → not empty ≡ has_zone zone
marks_zone [] empty h = ap not h
marks_zone (b ∷ bs) empty h = ap not (h ∙ not_empty (length bs))

pub kept_zone : (zone : List ℕ) (minutes : ℤ) → IsZoneText zone minutes → IsFew minutes
    → IsZoneText zone (to_z w16 (of_z w16 minutes))
kept_zone zone minutes h few =
    let fits : FitsSigned w16 minutes = omega (arith, ints, few.low, few.high) in
    let same : to_z w16 (of_z w16 minutes) ≡ minutes = to_z-of_z w16 minutes fits in
    rw same h

-- a date, a day and a moment
date_of : (text : List ℕ) (k : ℕ) (date : DateText) (behind : List ℕ) → IsDateText text date behind → 6 ≤ k
    → IsDateOf text (take k (behind_year text)) date
date_of text k date behind h long = record {
  negative = h.negative;
  year = h.year;
  month = h.month ∙ ap number_of (sym (in_front 2 1 k (behind_year text) (omega arith)));
  day = h.day ∙ ap number_of (sym (in_front 2 4 k (behind_year text) (omega arith)));
}

pub is_day_text : (text : List ℕ) (read : DayText) (behind : List ℕ) → IsDateText text read.date behind
    → read.zoned ≡ has_zone behind → IsZoneText behind read.zone → IsDayText text read
is_day_text text read behind date zoned zone =
    let offset = rw date.rest at zone in
    record {
      form = ap (λ t. t && is_zone (drop 6 (behind_year text))) date.form ∙ offset.form;
      date = date_of text 6 read.date behind date (omega arith);
      zoned = zoned ∙ ap has_zone date.rest;
      zone = offset.value;
    }

moment_form : (text : List ℕ)
    → is_moment_form text
    ≡ ((has_date_text text && has_clock (drop 6 (behind_year text)))
    && (has_good_fraction (drop 9 (drop 6 (behind_year text)))
    && is_zone (behind_fraction (drop 9 (drop 6 (behind_year text))))))
moment_form text =
    let behind = behind_year text in
    let four = nat_le 4 (length (year_digits text)) in
    ap
    (λ t. (four && t)
    && (has_good_fraction (drop 15 behind) && is_zone (behind_fraction (drop 15 behind))))
    (fits-append day_pattern clock_pattern behind 9)
    ∙ ap (λ t. t && (has_good_fraction (drop 15 behind) && is_zone (behind_fraction (drop 15 behind))))
    (and-group four (fits day_pattern (take 6 behind)) (has_clock (drop 6 behind)))
    ∙ ap
    (λ end. (has_date_text text && has_clock (drop 6 behind))
    && (has_good_fraction end && is_zone (behind_fraction end)))
    (sym (drop-drop 9 6 behind))

pub no_clock : (text : List ℕ) (date : DateText) (rest : List ℕ) → IsDateText text date rest
    → has_clock rest ≡ false → is_moment_form text ≡ false
no_clock text date rest read h =
    let none = rw read.rest at h in
    moment_form text ∙ rw (none, and-false) refl

pub no_fraction_form : (text : List ℕ) (date : DateText) (h m s : ℕ) (rest end : List ℕ)
    → IsDateText text date rest → IsClock rest h m s end → has_good_fraction end ≡ false
    → is_moment_form text ≡ false
no_fraction_form text date h m s rest end read clock bad =
    let none = rw (clock.rest, read.rest) at bad in
    moment_form text ∙ rw (none, and-false) refl

pub no_zone_form : (text : List ℕ) (date : DateText) (h m s : ℕ) (nanos : Option ℕ) (rest end zone : List ℕ)
    → IsDateText text date rest → IsClock rest h m s end → IsNanos end nanos zone → is_zone zone ≡ false
    → is_moment_form text ≡ false
no_zone_form text date h m s nanos rest end zone read clock fraction bad =
    let none = rw (fraction.rest, clock.rest, read.rest) at bad in
    moment_form text ∙ rw (none, and-false, and-false) refl

pub is_moment_text : (text : List ℕ) (read : MomentText) (rest end zone : List ℕ)
    → IsDateText text read.date rest → IsClock rest read.hour read.minute read.second end
    → IsNanos end read.nanos zone
    → read.zoned ≡ has_zone zone → IsZoneText zone read.zone → IsMomentText text read
is_moment_text text read rest end zone date clock fraction zoned offset =
    let behind = behind_year text in
    let ends : end ≡ drop 9 (drop 6 behind) = clock.rest ∙ ap (drop 9) date.rest in
    let last : end ≡ drop 15 behind = ends ∙ drop-drop 9 6 behind in
    let zones : zone ≡ behind_fraction (drop 15 behind) = fraction.rest ∙ ap behind_fraction last in
    let part : (k : ℕ) → k + 2 ≤ 9
    → number_of (take 2 (drop k rest)) ≡ number_of (take 2 (drop (6 + k) (take 15 behind))) =
    λ k inside. ap (λ xs. number_of (take 2 (drop k xs))) date.rest
    ∙ ap (λ xs. number_of (take 2 xs)) (drop-drop k 6 behind)
    ∙ ap number_of (sym (in_front 2 (6 + k) 15 behind (omega arith))) in
    record {
      form =
          moment_form text
          ∙ rw (date.form, rw date.rest at clock.form, rw ends at fraction.form)
          (ap (λ e. is_zone (behind_fraction e)) (sym ends) ∙ ap is_zone (sym fraction.rest)
          ∙ offset.form);
      date = date_of text 15 read.date rest date (omega arith);
      hour = clock.hour ∙ part 1 (omega arith);
      minute = clock.minute ∙ part 4 (omega arith);
      second = clock.second ∙ part 7 (omega arith);
      nanos = fraction.value ∙ ap (λ e. narrow_fraction 9 (fraction_of e)) last;
      zoned = zoned ∙ ap has_zone zones;
      zone = offset.value ∙ ap zone_minutes zones;
    }
