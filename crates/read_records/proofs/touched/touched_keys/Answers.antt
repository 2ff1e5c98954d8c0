use Rattle.std.proofs.Common.{◌∷◌, [], map}
use Rattle.std.proofs.lemmas.Iterator.{YieldsList-from_slice}
use Rattle.std.proofs.lemmas.Iterator.Consumers.{YieldsList-at, YieldsList-end, YieldsList-from_chain}
use Rattle.std.proofs.lemmas.List.{map-append}
use Rattle.std.proofs.lemmas.List.Filters.{dedup_is}
use Rattle.read_records.proofs.TouchedLemmas.{AreKeysOf-none, AreKeysOf-more, Lists-keys}
use Rattle.read_records.proofs.touched.touched_keys.Goals as goal

pub loop-t-init : goal.loop-t-init
loop-t-init c = rw c.new-keys.ensures.items AreKeysOf-none

pub loop-t-preserved : goal.loop-t-preserved
loop-t-preserved c =
    rw (map-append (λ t. t.now) c.loop-t.yielded (c.in-Some.t ∷ []), c.in_ok-extend_from_slice.ensures.items)
    (AreKeysOf-more (map (λ t. t.now) c.loop-t.yielded) c.in-Some.t.now c.loop-t.keys.items c.keys_of.result
    (rw c.keys_of.ensures.keys c.keys_of.ensures.touched) c.loop-t.invariant)

pub returns : goal.returns
returns c =
    let road = YieldsList-at c.into_iter-t-iterator.ensures.into_iter_gives (YieldsList-from_chain
    (YieldsList-from_slice c.args.added.now (cc)) (YieldsList-from_slice c.args.removed.now (cc))
    c.chain-t-items.ensures.first_done c.chain-t-items.ensures.second_done) in
    let all = YieldsList-end road c.loop-t.yielded c.loop-t.t-iterator c.loop-t.yielded_by c.next.result
    c.next.new.self c.in-None.is c.next.ensures.steps in
    rw (dedup_is _ _ _ c.dedup.ensures.filtered)
    (Lists-keys _ c.loop-t.keys.items c.sort_unstable.new.self.items (rw (← all.0) c.loop-t.invariant)
    c.sort_unstable.ensures.permutation c.sort_unstable.ensures.sorted)
