use Rattle.std.proofs.Common.{refl, sym, ap, ◌∙◌, map, subst}
use Rattle.report_write.proofs.RowLemmas.{count_of_slice, items_of_slice}
use Rattle.text_output.specs.Writes.{FellShort, Put}
use Rattle.shape_text.specs.declared.stop.Stop.TheVariants.{Write}
use Rattle.shacl_run.specs.Run.{status_of_rows}
use Rattle.shacl_run.proofs.EndLemmas.{passed_on}
use Rattle.shacl_run.proofs.ValidationLemmas.{first-validation}
use Rattle.shacl_run.proofs.run_validation.put_report.Goals as goal

pub write_first-requires : goal.write_first-requires
write_first-requires g c = λ k. (
  (refl, tt),
  (
    tt,
    (
      tt,
      λ items drained.
          count_of_slice c.iter.result c.deref.result.now items c.iter.ensures.rest drained
          ∙ c.deref.ensures.len ∙ sym c.len.ensures,
    ),
  ),
)

pub returns-in_err-write_first-clause-puts : goal.returns-in_err-write_first-clause-puts
returns-in_err-write_first-clause-puts g c = λ limits s is.
    let validation = c.args.validation.now in
    let found = c.in_ok-rows.ensures.rows limits validation.format s is in
    let exit = c.from_residual-in_err-write_first in
    let rows = c.in_ok-rows.rows.items in
    let (items, drained, writes) = c.in_err-write_first.ensures in
    let given =
    items_of_slice c.iter.result rows items (c.iter.ensures.rest ∙ c.deref.ensures.value) drained in
    let text = first-validation limits validation.format s validation is validation.passed_over
    c.pool-pool.result.now.terms (map (λ row. row.now) items) rows c.pool-pool.ensures.terms given found in
    rw (passed_on exit.result Write exit.ensures.1)
    (subst (FellShort (g.O.Sink.state c.args.out.now) (g.O.Sink.state c.write_first.new.out)) text writes.err)

pub returns-clause-puts : goal.returns-clause-puts
returns-clause-puts g c = λ limits s is.
    let validation = c.args.validation.now in
    let found = c.in_ok-rows.ensures.rows limits validation.format s is in
    let rows = c.in_ok-rows.rows.items in
    let (items, drained, writes) = c.in_ok-write_first.ensures in
    let given =
    items_of_slice c.iter.result rows items (c.iter.ensures.rest ∙ c.deref.ensures.value) drained in
    let text = first-validation limits validation.format s validation is validation.passed_over
    c.pool-pool.result.now.terms (map (λ row. row.now) items) rows c.pool-pool.ensures.terms given found in (
      subst (Put (g.O.Sink.state c.args.out.now) (g.O.Sink.state c.write_first.new.out)) text writes.ok,
      (rw c.deref-2.ensures.value at c.status_of_rows.ensures) ∙ ap status_of_rows found,
      c.in_ok-rows.ensures.work limits validation.format s is,
    )
