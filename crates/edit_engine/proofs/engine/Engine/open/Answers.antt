use Rattle.std.proofs.Common.{◌∙◌, sym, ap, subst}
use Rattle.read_records.specs.Recall.{RecallState}
use Rattle.shape_eval.specs.Answered.{answered}
use Rattle.shape_eval.specs.Nested.{nested_pairs}
use Rattle.shape_eval.specs.Planned.{plan_of}
use Rattle.edit_engine.specs.Remembered.{AreAllRecalled}
use Rattle.edit_engine.proofs.OpenedLemmas.{answered-none, kept_answers, nested_counted, nested_recalled}
use Rattle.edit_engine.proofs.OpeningLemmas.{IsKeptOf-adopted, MayBeAdopted-opening}
use Rattle.edit_engine.proofs.RememberedLemmas.{answers_kept}
use Rattle.edit_engine.proofs.SettledLemmas.{IsSettled-all}
use Rattle.edit_engine.proofs.engine.Engine.open.Goals as goal

pub of_all-requires : goal.of_all-requires
of_all-requires g c = record { once = c.in_ok-into_all.ensures.once }

pub adopt-requires : goal.adopt-requires
adopt-requires g c =
    rw (c.pool-2.ensures.terms, c.len.ensures)
    (MayBeAdopted-opening c.in_ok-renewal.ensures.renewal c.requires.once c.pool.ensures.known
    c.requires.known c.requires.within)

pub invariant_of-result : goal.invariant_of-result
invariant_of-result g c =
    let adopted = rw (c.pool-2.ensures.terms, c.len.ensures) at c.in_ok-kept.ensures.adopted in
    let distinct = rw c.pool.ensures.terms at c.terms_are_distinct.ensures in
    let same = c.in_ok-kept.ensures.recall in
    let kept = kept_answers c.opening_of.new.answers c.in_ok-into_all.field-0.items c.in_ok-recall.recall
    c.in_ok-kept.kept.recall c.in_ok-into_all.ensures.entries c.in_ok-recall.ensures.kept same in
    let held = IsKeptOf-adopted c.in_ok-renewal.ensures.renewal c.requires.once c.in_ok-kept.kept distinct
    adopted (rw kept c.in_ok-renewal.ensures.nested.remembers)
    (ap (λ (state : RecallState). state.staged) same ∙ c.in_ok-recall.ensures.staged) in (
      c.requires,
      held,
      IsSettled-all (plan_of c.args.plan) (g.V.GraphView.graph c.args.view) c.in_ok-kept.kept
          c.pool-3.result.now.terms c.len-settled.result c.requires held c.pool-3.ensures.terms
          c.len-settled.ensures.vocabulary c.len-settled.ensures.count,
    )

pub returns-clause-nested : goal.returns-clause-nested
returns-clause-nested g c =
    nested_counted (answered c.new-answers.result) (answered-none c.new-answers.result c.new-answers.ensures)
    (plan_of c.args.plan) (g.V.GraphView.graph c.args.view) (answered c.opening_of.new.answers)
    c.args.nested.now c.opening_of.new.nested c.in_ok-renewal.ensures.nested

pub returns-clause-remembered : goal.returns-clause-remembered
returns-clause-remembered g c =
    let kept = c.in_ok-kept.kept.recall in
    let is = answers_kept kept
    ∙ kept_answers c.opening_of.new.answers c.in_ok-into_all.field-0.items c.in_ok-recall.recall kept
    c.in_ok-into_all.ensures.entries c.in_ok-recall.ensures.kept c.in_ok-kept.ensures.recall in
    let plan = plan_of c.args.plan in
    let graph = g.V.GraphView.graph c.args.view in
    subst (λ f. AreAllRecalled f (nested_pairs plan graph)) (sym is)
    (nested_recalled (answered c.new-answers.result)
    (answered-none c.new-answers.result c.new-answers.ensures) plan graph (answered c.opening_of.new.answers)
    c.args.nested.now c.opening_of.new.nested c.in_ok-renewal.ensures.nested)
