use Rattle.graph_view.specs.Graph.{IsKnownTriple}
use Rattle.graph_view.proofs.PatchedLemmas.{All-patched, IsDistinct-patched, length-without, length-touching}
use Rattle.graph_view.proofs.patched.Patched.new.Goals as goal

pub invariant_of-result : goal.invariant_of-result
invariant_of-result g c =
    let graph = g.V.GraphView.graph c.args.base.now in
    let added = c.args.added.now in
    let removed = c.args.removed.now in
    record {
      known = All-patched graph added removed (IsKnownTriple graph.terms) c.pool.ensures.known
          c.requires.patch.added_known;
      distinct = IsDistinct-patched graph added removed c.len.ensures.distinct c.requires.patch.added_once
          c.requires.patch.added_absent;
      all_held = length-without graph.triples removed c.len.ensures.distinct c.requires.patch.removed_once
          c.requires.patch.removed_held;
      held_by_key = λ key. length-touching graph.triples removed key c.len.ensures.distinct
          c.requires.patch.removed_once c.requires.patch.removed_held;
      countable = c.requires.countable;
    }
