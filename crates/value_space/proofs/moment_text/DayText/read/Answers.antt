use Rattle.value_space.proofs.MomentFormLemmas.{marks_zone, kept_zone, is_day_text}
use Rattle.value_space.proofs.moment_text.DayText.read.Goals as goal

pub returns : goal.returns
returns c =
    let end = c.in_ok-date.end.now in
    is_day_text c.args.text.now _ end c.in_ok-date.ensures
    (marks_zone end c.is_empty.result c.is_empty.ensures)
    (kept_zone end c.in_ok-read_zone.field-0 c.in_ok-read_zone.ensures.zone c.in_ok-read_zone.ensures.few)
