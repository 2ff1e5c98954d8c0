use Rattle.std.specs.Prelude.{◌≡◌, ◌+◌, ◌<◌, ◌^◌, length}
use Rattle.std.specs.List.{IsDistinct}
use Rattle.shx_term.specs.Triple.{same_triple}
use Rattle.graph_view.specs.Graph.{AllKnown, IsKnownTriple}
use Rattle.graph_view.specs.Patched.{patched, without}
use Rattle.graph_view.proofs.PatchedLemmas.{All-patched, IsDistinct-patched, length-without, length-touching}
use Rattle.graph_view.specs.declared.key.Key.{Key}
use Rattle.graph_view.specs.Key.{look}
use Rattle.triple_store.proofs.OverlayLemmas.{at_both}
use Rattle.triple_store.proofs.overlay.Overlay.new.Goals as goal

pub invariant_of-result : goal.invariant_of-result
invariant_of-result g c =
    let graph = g.V.GraphView.graph c.args.base.now in
    let added = c.args.added.now in
    let removed = c.args.removed.now in
    let new = c.in_ok-new.ensures in
    let gone = c.in_ok-gone.ensures in
    record {
      known = at_both (λ a r. AllKnown (patched graph a r)) new gone
          (All-patched graph added removed (IsKnownTriple graph.terms) c.pool.ensures.known
          c.requires.patch.added_known);
      distinct = at_both (λ a r. IsDistinct same_triple (patched graph a r).triples) new gone
          (IsDistinct-patched graph added removed c.len.ensures.distinct c.requires.patch.added_once
          c.requires.patch.added_absent);
      all_held = at_both
          (λ a r. length (without same_triple graph.triples r) + length r ≡ length graph.triples) new gone
          (length-without graph.triples removed c.len.ensures.distinct c.requires.patch.removed_once
          c.requires.patch.removed_held);
      held_by_key = at_both
          (λ a r. (key : Key) → length (look (without same_triple graph.triples r) key) + length (look r key)
          ≡ length (look graph.triples key)) new gone
          (λ key. length-touching graph.triples removed key c.len.ensures.distinct
          c.requires.patch.removed_once c.requires.patch.removed_held);
      countable = at_both (λ a r. length (patched graph a r).triples < 2 ^ 64) new gone c.requires.countable;
    }
