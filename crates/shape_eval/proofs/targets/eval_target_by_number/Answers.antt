use Rattle.std.specs.Prelude.{◌<◌, flat_map, length, nat_eq, slice_get}
use Rattle.std.proofs.lemmas.List.Filters.{All-dedup, dedup_is}
use Rattle.std.proofs.lemmas.List.Sorted.{All-permutation}
use Rattle.shape_eval.specs.Planned.{plan_of}
use Rattle.shape_eval.specs.Targets.{nodes_of_target, targets_of}
use Rattle.shape_eval.proofs.AscendingLemmas.{Lists-by_number}
use Rattle.shape_eval.proofs.targets.eval_target_by_number.Goals as goal

pub returns-clause-nodes : goal.returns-clause-nodes
returns-clause-nodes g c =
    let graph = g.V.GraphView.graph c.args.view.now in
    rw (dedup_is _ _ _ c.dedup.ensures.filtered)
    (Lists-by_number graph.terms c.in_ok-found.found.items c.sort_unstable.new.self.items
    (flat_map (nodes_of_target graph) (targets_of (slice_get (plan_of c.args.plan.now).shapes c.args.shape)))
    c.in_ok-found.ensures.nodes c.sort_unstable.ensures.permutation c.sort_unstable.ensures.sorted)

pub returns-clause-known : goal.returns-clause-known
returns-clause-known g c =
    let graph = g.V.GraphView.graph c.args.view.now in
    let sorted = c.sort_unstable.new.self.items in
    rw (dedup_is _ _ _ c.dedup.ensures.filtered)
    (All-dedup nat_eq (λ id. id < length graph.terms) sorted
    (All-permutation (λ id. id < length graph.terms) c.in_ok-found.found.items sorted
    c.sort_unstable.ensures.permutation c.in_ok-found.ensures.known))
