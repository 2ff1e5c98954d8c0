use Rattle.std.proofs.Common.{rules}
use Rattle.std.proofs.lemmas.Iterator.{YieldsList-from_map, YieldsList-from_slice, items_from_collect}
use Rattle.std.proofs.lemmas.Iterator.Consumers.{YieldsList-at, YieldsList-from_chain}
use Rattle.read_records.proofs.FiledLemmas.{IfOk-readers, as_pair, as_target}
use Rattle.read_records.proofs.filing.Filing.readers_of.Goals as goal

pub returns : goal.returns
returns c =
    let targets = c.in_ok-targets.targets.items in
    let pairs = c.in_ok-pairs.pairs.items in
    rw (← c.self.view_is)
    (IfOk-readers c.collect.result
    (record { targets = c.self.inside.targets; pairs = c.self.inside.pairs })
    c.args.key.now targets pairs c.self.invariant c.in_ok-targets.ensures c.in_ok-pairs.ensures
    (items_from_collect c.collect.result c.collect.ensures.ran
    (YieldsList-from_chain
    (YieldsList-at c.chain.ensures.first
    (YieldsList-from_map _ as_target
    (YieldsList-at c.map-targets.ensures.source (YieldsList-from_slice targets (cc)))
    c.map-targets.ensures.closure (λ x r q k. search rules)))
    (YieldsList-at c.chain.ensures.second
    (YieldsList-from_map _ as_pair
    (YieldsList-at c.map-pairs.ensures.source (YieldsList-from_slice pairs (cc)))
    c.map-pairs.ensures.closure (λ x r q k. search rules)))
    c.chain.ensures.first_done c.chain.ensures.second_done)))
