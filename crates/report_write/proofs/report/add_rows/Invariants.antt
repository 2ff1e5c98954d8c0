use Rattle.std.proofs.Common.{flat_map, map}
use Rattle.shape_eval.specs.Planned.{plan_of}
use Rattle.report_write.specs.ReportTexts.{row_text}
use Rattle.report_write.proofs.report.add_rows.Given as goal

abbrev pub invariant-loop-row : goal.invariant-loop-row
invariant-loop-row g l =
    g.W.Pieces.added l.fn.out l.out
    (flat_map (row_text l.format l.pool.terms (plan_of l.plan).shapes) (map (λ row. row.now) l.yielded))
