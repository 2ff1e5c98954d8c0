use Rattle.std.proofs.Common.{◌∷◌, [], map, ◌∙◌}
use Rattle.std.proofs.lemmas.Iterator.{YieldsList-from_slice}
use Rattle.std.proofs.lemmas.Iterator.Consumers.{YieldsList-at, YieldsList-end, YieldsList-from_chain}
use Rattle.std.proofs.lemmas.List.{map-append}
use Rattle.std.proofs.lemmas.List.Filters.{dedup_is}
use Rattle.shape_eval.proofs.AscendingLemmas.{Lists-ascending}
use Rattle.edit_engine.proofs.ToldLemmas.{told_more}
use Rattle.edit_engine.proofs.target_change.nodes_told.Goals as goal

pub loop-t-init : goal.loop-t-init
loop-t-init g c = c.new-nodes.ensures.items

pub loop-t-preserved : goal.loop-t-preserved
loop-t-preserved g c =
    rw (map-append (λ t. t.now) c.loop-t.yielded (c.in-Some.t ∷ []))
    (told_more (g.V.GraphView.graph c.args.view.now) c.args.targets.now (map (λ t. t.now) c.loop-t.yielded)
    c.in-Some.t.now c.loop-t.nodes.items _ _ _ c.loop-t.invariant c.in_ok-add_told.ensures
    c.in_ok-extend_from_slice.ensures.items (c.deref.ensures.value ∙ c.in_ok-instances_told.ensures))

pub returns : goal.returns
returns g c =
    let road = YieldsList-at c.into_iter-t-iterator.ensures.into_iter_gives (YieldsList-from_chain
    (YieldsList-from_slice c.args.added.now (cc)) (YieldsList-from_slice c.args.removed.now (cc))
    c.chain-t-items.ensures.first_done c.chain-t-items.ensures.second_done) in
    let all = YieldsList-end road c.loop-t.yielded c.loop-t.t-iterator c.loop-t.yielded_by c.next.result
    c.next.new.self c.in-None.is c.next.ensures.steps in
    rw (dedup_is _ _ _ c.dedup.ensures.filtered)
    (Lists-ascending c.loop-t.nodes.items c.sort_unstable.new.self.items _
    (rw (← all.0) c.loop-t.invariant) c.sort_unstable.ensures.permutation c.sort_unstable.ensures.sorted)
