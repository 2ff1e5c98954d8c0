use Rattle.std.proofs.Common.{subst, sym}
use Rattle.std.specs.Iterator.{Yields}
use Rattle.shape_eval.specs.Planned.{plan_of}
use Rattle.report_write.specs.ReportTexts.{row_text}
use Rattle.report_write.proofs.RowLemmas.{rows_more}
use Rattle.report_write.proofs.report.add_rows.Goals as goal

pub loop-row-preserved : goal.loop-row-preserved
loop-row-preserved g c =
    let text = row_text c.args.format c.args.pool.now.terms (plan_of c.args.plan.now).shapes in
    subst (g.W.Pieces.added c.args.out.now c.add_row.new.out)
    (sym (rows_more text (λ row. row.now) c.loop-row.yielded c.in-Some.row))
    (g.met.W.Pieces.added_in_turn _ _ _ _ _ c.loop-row.invariant c.add_row.ensures)

pub returns : goal.returns
returns g c =
    let gives = g.I.Iterator.next_gives in
    let seen = c.loop-row.yielded in
    let from_rows = subst (λ (rows : g.row.I.Denot). Yields gives rows seen c.loop-row.row-iterator)
    c.into_iter-row-iterator.ensures.into_iter_gives c.loop-row.yielded_by in (
      seen,
      (c.next.new.self, (c.loop-row.row-iterator, from_rows, c.in-None.ensures.steps)),
      c.loop-row.invariant,
    )
