use Rattle.std.proofs.Common.{◌≡◌, ◌++◌, sym, ap, ◌∙◌, length, map, refl, subst}
use Rattle.graph_view.specs.Graph.{Graph}
use Rattle.shape_eval.specs.Planned.{plan_of}
use Rattle.shape_eval.specs.Report.{report}
use Rattle.report_write.specs.ReportTexts.{report_text}
use Rattle.text_output.specs.Writes.{Writes}
use Rattle.shacl_run.specs.Run.{first_text, notice_text}
use Rattle.script_run.proofs.RowsLemmas.{count_to_come, items_to_come}
use Rattle.script_run.proofs.ScriptRunLemmas.{report_said}
use Rattle.shacl_run.proofs.run_validation.write_current.Goals as goal

pub write_first-requires : goal.write_first-requires
write_first-requires g c = λ k. (
  (refl, tt),
  (
    tt,
    (
      tt,
      λ items drained.
          count_to_come c.rows.result items drained ∙ ap length c.rows.ensures
          ∙ sym c.result_count-count.ensures,
    ),
  ),
)

pub returns-clause-puts : goal.returns-clause-puts
returns-clause-puts g c =
    let (items, drained, written) = c.write_first.ensures in
    (_, written)

pub returns-clause-first : goal.returns-clause-first
returns-clause-first g c = λ limits format s is.
    let (items, drained, written) = c.write_first.ensures in
    let script = c.args.script.now in
    let engine = script.engine in
    let notices = c.args.passed_over in
    let alike = c.same_graphs_answer_alike.ensures.report engine.plan s.graph engine.graph is.stores
    c.view.ensures.asked in
    let terms : engine.graph.terms ≡ c.pool-pool.result.now.terms =
    sym (c.pool-pool.ensures.terms ∙ ap (λ (g : Graph). g.terms) c.view.ensures.graph) in
    let rows : report engine.plan engine.graph ≡ map (λ row. row.now) items =
    sym (items_to_come c.rows.result items drained ∙ c.rows.ensures) in
    let said = report_said limits format s script is alike in
    let text : first_text format notices s
    ≡ notice_text script.format notices
    ++ report_text script.format c.pool-pool.result.now.terms (plan_of c.plan.result.now).shapes
    (map (λ row. row.now) items)
    = (λ i. notice_text format notices ++ said i)
    ∙ (λ i. notice_text (sym is.format_is i) notices
    ++ report_text (sym is.format_is i) (terms i) (sym c.plan.ensures i).shapes (rows i)) in
    subst (λ text. Writes (g.O.Sink.state c.args.out.now) (g.O.Sink.state c.write_first.new.out) text
    c.write_first.result) (sym text) written
