use Rattle.std.specs.Prelude.{ℕ, ◌+◌, ◌++◌, flat_map, length, map}
use Rattle.std.proofs.Common.{sym, ap, ◌∙◌, subst}
use Rattle.shx_term.specs.IdOrder.{in_term_order}
use Rattle.shx_term.specs.Members.{SameMembers}
use Rattle.shape_eval.specs.Answered.{answered}
use Rattle.shape_eval.specs.Planned.{plan_of}
use Rattle.shape_eval.specs.Report.{at_shape}
use Rattle.shape_eval.specs.Results.{results}
use Rattle.shape_eval.specs.Targets.{target_nodes}
use Rattle.shacl_run.specs.inner.NodeRows.{AreRowsAt}
use Rattle.shacl_run.proofs.NestedLemmas.{BringsNested-same}
use Rattle.shacl_run.proofs.NodeRowLemmas.{as_many, same_pairs, same_rows}
use Rattle.shacl_run.proofs.evaluation.add_shape.Goals as goal

pub returns-clause-rows : goal.returns-clause-rows
returns-clause-rows g c =
    let shapes = (plan_of c.args.plan.now).shapes in
    let graph = g.V.GraphView.graph c.args.view.now in
    let nodes = c.in_ok-nodes.nodes.items in
    let lists = c.in_ok-nodes.ensures.nodes in
    let found = λ (n : ℕ). results shapes graph (at_shape c.args.shape n) in
    c.in_ok-add_in_term_order.ensures found nodes lists.sorted
    (subst (λ ns. AreRowsAt found ns c.in_ok-found.found.items) c.deref.ensures.value
    c.in_ok-found.ensures.rows)
    ∙ ap (λ rows. c.args.rows.now.items ++ rows)
    (ap (λ terms. flat_map found (in_term_order terms nodes)) c.pool.ensures.terms
    ∙ same_rows shapes graph c.args.shape nodes lists)

pub returns-clause-steps : goal.returns-clause-steps
returns-clause-steps g c =
    c.in_ok-found.ensures.steps
    ∙ ap (λ n. c.args.steps.now + n)
    (ap length c.deref.ensures.value
    ∙ as_many (plan_of c.args.plan.now).shapes (g.V.GraphView.graph c.args.view.now) c.args.shape
    c.in_ok-nodes.nodes.items c.in_ok-nodes.ensures.nodes)

pub returns-clause-nested : goal.returns-clause-nested
returns-clause-nested g c =
    let shapes = (plan_of c.args.plan.now).shapes in
    let graph = g.V.GraphView.graph c.args.view.now in
    let pair = at_shape c.args.shape in
    let pairs = map pair (target_nodes shapes graph c.args.shape) in
    let nodes = c.deref.result.now in
    BringsNested-same (λ a keys. Unit {0}) shapes graph (answered c.args.answers.now)
    (answered c.rows_at.new.answers) (map pair nodes) pairs c.args.nested.now c.rows_at.new.nested
    (subst (λ ns. SameMembers (map pair ns) pairs) (sym c.deref.ensures.value)
    (same_pairs shapes graph c.args.shape c.in_ok-nodes.nodes.items c.in_ok-nodes.ensures.nodes))
    c.in_ok-found.ensures.nested
