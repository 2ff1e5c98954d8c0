use Rattle.std.proofs.Common.{refl, sym, ap, ◌∙◌, length, rules}
use Rattle.script_run.proofs.RowsLemmas.{count_to_come, items_to_come}
use Rattle.script_run.proofs.reply.write_reply.Goals as goal

pub write_report-requires : goal.write_report-requires
write_report-requires g c = λ k. (
  (refl, tt),
  (
    tt,
    (
      tt,
      λ items drained.
          count_to_come c.rows.result items drained ∙ ap length c.rows.ensures ∙ sym c.result_count.ensures,
    ),
  ),
)

pub returns-in-Report : goal.returns-in-Report
returns-in-Report g c =
    let (items, drained, written) = c.write_report.ensures in
    let put = rw (items_to_come c.rows.result items drained) at written in
    search rules
