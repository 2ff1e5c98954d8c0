use Rattle.std.proofs.Common.{refl}
use Rattle.report_write.proofs.RowLemmas.{count_of_slice}
use Rattle.report_rows.proofs.tests.reports.is_put.Goals as goal

pub write_report-written-requires : goal.write_report-written-requires
write_report-written-requires c = λ k. (
  (refl, tt),
  (
    tt,
    (
      tt,
      λ items drained.
          count_of_slice c.iter.result c.args.rows.now items c.iter.ensures.rest drained,
    ),
  ),
)
