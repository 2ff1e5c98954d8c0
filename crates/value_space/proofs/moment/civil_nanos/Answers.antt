use Rattle.std.proofs.Common.{◌≡◌, refl, ap, ◌∙◌, pos, to_z, of_z, w8, w16, arith, Some}
use Rattle.std.proofs.lemmas.Int.{ints, to_z_pos, to_z-of_z}
use Rattle.std.specs.Int.{w128}
use Rattle.std.proofs.lemmas.Bool.{false≢true}
use Rattle.jiff.specs.Words.{epoch_day, IsDate}
use Rattle.jiff.proofs.Family.{days_from_civil-day, days_from_civil-next_month, days_from_civil-next_year}
use Rattle.jiff.proofs.Family.{days_from_civil-min}
use Rattle.value_space.specs.Moments.{day_number}
use Rattle.value_space.specs.inner.MomentParts.{day_in_nanos}
use Rattle.value_space.proofs.CalendarLemmas.{is_date-true, is_date-false, day_number_at, same_date_parts}
use Rattle.value_space.proofs.CalendarLemmas.{other_date_parts}
use Rattle.value_space.proofs.moment.civil_nanos.Goals as goal

pub returns-in-Ok-clause-value : goal.returns-in-Ok-clause-value
returns-in-Ok-clause-value c =
    let y = c.args.year in
    let m = c.args.month in
    let d = c.args.day in
    let month : to_z w8 m ≡ pos m = to_z_pos w8 m (omega arith) in
    let day : to_z w8 d ≡ pos d = to_z_pos w8 d (omega arith) in
    let year : to_z w16 (of_z w16 y) ≡ y = to_z-of_z w16 y c.ranges.year in
    let found : IsDate y (pos m) (pos d) =
    same_date_parts y _ m d _ _ year month day (c.in-Ok.ensures.succeeds.0 refl) in
    let civil = c.in-Ok.civil in
    let parts = c.in-Ok.ensures.value in
    let number : epoch_day civil ≡ day_number y m d =
    day_number_at _ days_from_civil-day days_from_civil-next_month days_from_civil-next_year
    days_from_civil-min y civil.year m d civil.month civil.day c.requires.year found
    (parts.0 ∙ year) (parts.1 ∙ month) (parts.2 ∙ day) in
    let nanos : to_z w128 (of_z w128 c.nanos_at.result) ≡ day_in_nanos (day_number y m d) =
    omega (arith, ints, c.nanos_at.ensures.value, number) in
    rw (is_date-true y m d found) (ap Some nanos)

pub returns-in-Err-clause-value : goal.returns-in-Err-clause-value
returns-in-Err-clause-value c =
    let y = c.args.year in
    let m = c.args.month in
    let d = c.args.day in
    let month : to_z w8 m ≡ pos m = to_z_pos w8 m (omega arith) in
    let day : to_z w8 d ≡ pos d = to_z_pos w8 d (omega arith) in
    rw
    (is_date-false y m d c.requires.year
    (λ found. false≢true
    (c.in-Err.ensures.succeeds.1
    (other_date_parts y _ m d _ _ (omega (arith, ints)) month day found))))
    refl
