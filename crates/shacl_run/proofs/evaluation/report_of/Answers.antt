use Rattle.std.specs.Prelude.{Err, Ok, OnOk, Result}
use Rattle.std.proofs.lemmas.Result.{IfOk-weaker}
use Rattle.graph_view.specs.ListGraph.{plain_graph}
use Rattle.shape_eval.specs.Planned.{plan_of}
use Rattle.script_run.specs.Work.{evaluating}
use Rattle.script_run.proofs.ValidationLemmas.{work-validation}
use Rattle.shacl_run.proofs.ValidationLemmas.{rows-validation}
use Rattle.shacl_run.proofs.evaluation.report_of.Goals as goal

-- of two facts that hold where a call answers
on_both : {T E P Q R : Type 0} (r : Result T E) → (P → Q → R) → OnOk r P → OnOk r Q → OnOk r R
on_both (Ok x) joins p q = joins p q
on_both (Err e) joins p q = tt

pub returns-clause-rows : goal.returns-clause-rows
returns-clause-rows g c = λ limits format s is.
    let validation = c.args.validation.now in
    let alike = c.same_graphs_answer_alike.ensures.report (plan_of validation.plan) s.graph
    (plain_graph validation.graph) is.stores c.requires in
    IfOk-weaker c.evaluate.result _ _
    (λ rows same. rows-validation limits format s validation is alike rows.items same)
    c.evaluate.ensures.rows

pub returns-clause-work : goal.returns-clause-work
returns-clause-work g c = λ limits format s is.
    let validation = c.args.validation.now in
    let law = c.same_graphs_answer_alike.ensures in
    let plan = plan_of validation.plan in
    let stored = plain_graph validation.graph in
    on_both c.evaluate.result
    (work-validation limits format s validation is (law.pairs plan s.graph stored is.stores c.requires)
    (law.nested plan s.graph stored is.stores c.requires) (evaluating c.args.steps.now c.args.nested.now)
    (evaluating c.evaluate.new.steps c.evaluate.new.nested))
    c.evaluate.ensures.steps c.evaluate.ensures.nested
