use Rattle.std.proofs.Common.{take_all}
use Rattle.std.proofs.lemmas.List.Filters.{dedup_is}
use Rattle.read_records.proofs.ReachedLemmas.{AreNotedBy-none, AreNotedBy-take_one, Lists-noted}
use Rattle.read_records.proofs.store.Store.readers_of.Goals as goal

pub loop-key-init : goal.loop-key-init
loop-key-init g c = rw c.new-found.ensures.items (AreNotedBy-none c.args.self.now.kept)

pub loop-key-preserved : goal.loop-key-preserved
loop-key-preserved g c =
    AreNotedBy-take_one c.args.self.now.kept c.args.keys.now c.loop-key.key-index _ c.loop-key-test.true
    c.loop-key.invariant c.in_ok-add_readers.ensures

pub returns : goal.returns
returns g c =
    let keys = c.args.keys.now in
    let all = take_all c.loop-key.key-index keys c.loop-key-test.false in
    rw (dedup_is _ _ _ c.dedup.ensures.filtered)
    (Lists-noted c.args.self.now.kept keys c.loop-key.found.items c.sort_unstable.new.self.items
    (rw (← all) c.loop-key.invariant) c.sort_unstable.ensures.permutation c.sort_unstable.ensures.sorted)
