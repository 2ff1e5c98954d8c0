use Rattle.std.proofs.Common.{Some, None, arith}
use Rattle.std.proofs.lemmas.Int.{ints}
use Rattle.shx_term.specs.MomentForm.{calendar_of, day_pattern}
use Rattle.value_space.proofs.MomentLemmas.{date_of_text, day_year, day_is, no_day}
use Rattle.value_space.proofs.moment.day_value.Goals as goal

pub returns-in-Some-date_nanos : goal.returns-in-Some-date_nanos
returns-in-Some-date_nanos c =
    let text = c.args.text.now in
    let read = c.in-Some.ensures in
    let parts = read.date in
    let date = c.in-Some.day.date in
    let day =
    date_of_text text (calendar_of day_pattern text) date.negative date.year date.month date.day
    (Some c.in-Some-date_nanos.nanos)
    (day_year text read.form c.requires) parts.negative parts.year parts.month parts.day
    c.in-Some-date_nanos.ensures.value in
    day_is text c.in-Some-date_nanos.nanos c.zone_nanos.result _ c.in-Some.day.zoned read.form day
    (omega (arith, ints, c.zone_nanos.ensures.value, read.zone)) read.zoned
    (omega (arith, ints, c.in-Some-date_nanos.ensures.small, c.zone_nanos.ensures.small))

pub returns-in-None : goal.returns-in-None
returns-in-None c =
    let text = c.args.text.now in
    let read = c.in-Some.ensures in
    let parts = read.date in
    let date = c.in-Some.day.date in
    no_day text read.form
    (date_of_text text (calendar_of day_pattern text) date.negative date.year date.month date.day None
    (day_year text read.form c.requires) parts.negative parts.year parts.month parts.day
    c.in-None.ensures.value)
