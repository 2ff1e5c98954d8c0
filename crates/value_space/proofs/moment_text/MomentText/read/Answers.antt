use Rattle.value_space.proofs.MomentFormLemmas.{marks_zone, kept_zone, no_clock, no_fraction_form}
use Rattle.value_space.proofs.MomentFormLemmas.{no_zone_form, is_moment_text}
use Rattle.value_space.proofs.moment_text.MomentText.read.Goals as goal

pub returns-in_err-hour : goal.returns-in_err-hour
returns-in_err-hour c =
    rw c.from_residual-in_err-hour.ensures
    (no_clock c.args.text.now c.in_ok-date.date c.in_ok-date.rest.now c.in_ok-date.ensures
    c.in_err-hour.ensures)

pub returns-in_err-nanos : goal.returns-in_err-nanos
returns-in_err-nanos c =
    rw c.from_residual-in_err-nanos.ensures
    (no_fraction_form c.args.text.now c.in_ok-date.date _ _ _ c.in_ok-date.rest.now c.in_ok-hour.end.now
    c.in_ok-date.ensures c.in_ok-hour.ensures c.in_err-nanos.ensures)

pub returns-in_err-read_zone : goal.returns-in_err-read_zone
returns-in_err-read_zone c =
    rw c.from_residual-in_err-read_zone.ensures
    (no_zone_form c.args.text.now c.in_ok-date.date _ _ _ _ c.in_ok-date.rest.now c.in_ok-hour.end.now
    c.in_ok-nanos.zone.now c.in_ok-date.ensures c.in_ok-hour.ensures c.in_ok-nanos.ensures
    c.in_err-read_zone.ensures.zone)

pub returns : goal.returns
returns c =
    let zone = c.in_ok-nanos.zone.now in
    is_moment_text c.args.text.now _ c.in_ok-date.rest.now c.in_ok-hour.end.now zone c.in_ok-date.ensures
    c.in_ok-hour.ensures c.in_ok-nanos.ensures
    (marks_zone zone c.is_empty.result c.is_empty.ensures)
    (kept_zone zone c.in_ok-read_zone.field-0 c.in_ok-read_zone.ensures.zone
    c.in_ok-read_zone.ensures.few)
