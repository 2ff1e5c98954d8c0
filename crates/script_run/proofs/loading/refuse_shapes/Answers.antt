use Rattle.std.proofs.Common.{subst, sym, ◌∙◌}
use Rattle.script_run.specs.inner.Loading.{RefusesShapes}
use Rattle.script_run.proofs.UnplannedLemmas.{RefusesBy-cut}
use Rattle.script_run.proofs.loading.refuse_shapes.Goals as goal

pub returns-in-Some : goal.returns-in-Some
returns-in-Some c =
    subst (λ o. RefusesShapes c.args.held c.args.answer.now o c.args.script.now c.halt.new.script
    c.halt.result) (sym c.in-Some.is ∙ c.refused_shape.ensures) c.halt.ensures

pub returns-in-None : goal.returns-in-None
returns-in-None c =
    let refused = c.refuse_line in
    subst (λ o. RefusesShapes c.args.held c.args.answer.now o c.args.script.now refused.new.script
    refused.result) (sym c.in-None.is ∙ c.refused_shape.ensures)
    (RefusesBy-cut c.args.held c.args.answer.now c.args.script.now c.cut.new.self c.told_code.result
    refused.new.script refused.result c.cut.ensures c.told_code.ensures (record {
      replies = refused.ensures.replies;
      running = refused.ensures.running;
      moves = refused.ensures.moves;
    }))
