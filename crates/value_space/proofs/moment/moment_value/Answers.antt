use Rattle.std.proofs.Common.{Some, None, arith}
use Rattle.std.proofs.lemmas.Int.{ints}
use Rattle.shx_term.specs.MomentForm.{calendar_of, moment_pattern}
use Rattle.value_space.proofs.MomentLemmas.{date_of_text, time_of_text, moment_year, stamp_is, no_date}
use Rattle.value_space.proofs.MomentLemmas.{no_time}
use Rattle.value_space.proofs.moment.moment_value.Goals as goal

pub returns-in_default-date_nanos : goal.returns-in_default-date_nanos
returns-in_default-date_nanos c =
    let text = c.args.text.now in
    let read = c.in-Some.ensures in
    let parts = read.date in
    let date = c.in-Some.moment.date in
    no_date text read.form
    (date_of_text text (calendar_of moment_pattern text) date.negative date.year date.month date.day None
    (moment_year text read.form c.requires) parts.negative parts.year parts.month parts.day
    c.in_default-date_nanos.ensures.value)

pub returns-in_default-time_nanos : goal.returns-in_default-time_nanos
returns-in_default-time_nanos c =
    let text = c.args.text.now in
    let read = c.in-Some.ensures in
    let moment = c.in-Some.moment in
    no_time text read.form
    (time_of_text text moment.hour moment.minute moment.second moment.nanos None read.form c.requires
    read.hour read.minute read.second read.nanos c.in_default-time_nanos.ensures.value)

pub returns : goal.returns
returns c =
    let text = c.args.text.now in
    let read = c.in-Some.ensures in
    let parts = read.date in
    let moment = c.in-Some.moment in
    let date = moment.date in
    let day =
    date_of_text text (calendar_of moment_pattern text) date.negative date.year date.month date.day
    (Some c.in-Some-date_nanos.day)
    (moment_year text read.form c.requires) parts.negative parts.year parts.month parts.day
    c.in-Some-date_nanos.ensures.value in
    let time =
    time_of_text text moment.hour moment.minute moment.second moment.nanos
    (Some c.in-Some-time_nanos.time) read.form c.requires read.hour read.minute read.second read.nanos
    c.in-Some-time_nanos.ensures.value in
    stamp_is text c.in-Some-date_nanos.day c.in-Some-time_nanos.time c.zone_nanos.result _ moment.zoned
    read.form day time
    (omega (arith, ints, c.zone_nanos.ensures.value, read.zone)) read.zoned
    (omega (
      arith,
      ints,
      c.in-Some-date_nanos.ensures.small,
      c.in-Some-time_nanos.ensures.small,
      c.zone_nanos.ensures.small,
    ))
