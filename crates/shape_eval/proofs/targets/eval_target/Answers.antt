use Rattle.std.specs.Prelude.{flat_map, slice_get}
use Rattle.std.proofs.Common.{ap, ◌∙◌}
use Rattle.shx_term.specs.IdOrder.{in_term_order}
use Rattle.shx_term.proofs.IdOrderLemmas.{in_term_order_same}
use Rattle.shape_eval.specs.Planned.{plan_of}
use Rattle.shape_eval.specs.Targets.{nodes_of_target, targets_of}
use Rattle.shape_eval.proofs.TargetLemmas.{known_in_order}
use Rattle.shape_eval.proofs.targets.eval_target.Goals as goal

pub returns-clause-nodes : goal.returns-clause-nodes
returns-clause-nodes g c =
    let graph = g.V.GraphView.graph c.args.view.now in
    let found = c.in_ok-found.found.items in
    c.in_order.ensures ∙ ap (λ ts. in_term_order ts found) c.pool.ensures.terms
    ∙ in_term_order_same graph.terms found
    (flat_map (nodes_of_target graph) (targets_of (slice_get (plan_of c.args.plan.now).shapes c.args.shape)))
    c.in_ok-found.ensures.nodes.each

pub returns-clause-known : goal.returns-clause-known
returns-clause-known g c =
    let view = g.V.GraphView.graph c.args.view.now in
    known_in_order view c.pool.result.now.terms c.pool.ensures.terms c.in_ok-found.found.items
    c.in_order.result.items c.in_ok-found.ensures.known c.in_order.ensures
