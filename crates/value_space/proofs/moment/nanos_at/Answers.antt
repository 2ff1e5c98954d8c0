use Rattle.std.proofs.Common.{◌≡◌, pos, arith}
use Rattle.std.proofs.lemmas.Int.{ints}
use Rattle.jiff.specs.Words.{epoch_day}
use Rattle.jiff.proofs.Family.{days_from_civil-day, days_from_civil-next_month, days_from_civil-next_year}
use Rattle.jiff.proofs.Family.{days_from_civil-min}
use Rattle.value_space.proofs.CalendarLemmas.{epoch_is}
use Rattle.value_space.proofs.moment.nanos_at.Goals as goal

pub returns-clause-value : goal.returns-clause-value
returns-clause-value c =
    let start = c.date.result in
    let epoch : epoch_day start ≡ pos 0 =
    epoch_is _ days_from_civil-day days_from_civil-next_month days_from_civil-next_year
    days_from_civil-min start.year start.month start.day c.date.ensures.0 c.date.ensures.1
    c.date.ensures.2 in
    omega (arith, ints, c.duration_since.ensures, c.as_nanos.ensures.value, epoch)
