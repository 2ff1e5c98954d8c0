use Rattle.shx_term.proofs.SetLemmas.{SameMembers-is}
use Rattle.path_eval.specs.Values.{nodes_reached}
use Rattle.path_eval.proofs.ValueLemmas.{found_known, ordered_nodes}
use Rattle.path_eval.proofs.path_values.follow_laid.Goals as goal

pub returns-clause-values : goal.returns-clause-values
returns-clause-values g c = λ d route same last.
    ordered_nodes (g.V.GraphView.graph c.args.view.now) d route c.args.start c.in_ok-nodes.nodes.items
    (c.in_ok-nodes.ensures.nodes d route same last) c.pool.result.now.terms c.in_order.result.items
    c.pool.ensures.terms c.in_order.ensures

pub returns-clause-known : goal.returns-clause-known
returns-clause-known g c = λ d route same last.
    let graph = g.V.GraphView.graph c.args.view.now in
    let found = c.in_order.result.items in
    found_known graph c.pool.ensures.known d route c.args.start found
    (SameMembers-is found (nodes_reached graph d route c.args.start)
    (returns-clause-values g c d route same last))
