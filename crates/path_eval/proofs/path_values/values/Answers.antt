use Rattle.std.proofs.Common.{sym, ap, ◌∙◌}
use Rattle.shx_term.proofs.SetLemmas.{SameMembers-is}
use Rattle.path_eval.specs.declared.direction.Direction.TheVariants.{Forward}
use Rattle.path_eval.specs.Route.{route_of}
use Rattle.path_eval.specs.Values.{nodes_reached}
use Rattle.path_eval.proofs.ValueLemmas.{found_known, step_nodes}
use Rattle.path_eval.proofs.path_values.values.Goals as goal

pub returns-in-Pred-clause-values : goal.returns-in-Pred-clause-values
returns-in-Pred-clause-values g c =
    let graph = g.V.GraphView.graph c.args.view.now in
    c.in_ok-found.ensures.found ∙ step_nodes graph Forward c.in-Pred.p c.args.start
    ∙ ap (λ path. nodes_reached graph Forward (route_of path) c.args.start) (sym c.in-Pred.is)

pub returns-in-Pred-clause-known : goal.returns-in-Pred-clause-known
returns-in-Pred-clause-known g c =
    let graph = g.V.GraphView.graph c.args.view.now in
    let found = c.in_ok-found.found.items in
    found_known graph c.pool.ensures.known Forward (route_of c.args.path.now) c.args.start found
    (SameMembers-is found (nodes_reached graph Forward (route_of c.args.path.now) c.args.start)
    (returns-in-Pred-clause-values g c))
