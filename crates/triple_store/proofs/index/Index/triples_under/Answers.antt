use Rattle.std.specs.Prelude.{◌≡◌, filter, IfOk}
use Rattle.std.proofs.Common.{◌∙◌, subst, rules}
use Rattle.std.proofs.lemmas.Iterator.{YieldsList-from_map, items_from_collect}
use Rattle.std.proofs.lemmas.Iterator.Consumers.{YieldsList-at, YieldsList-from_rest}
use Rattle.triple_store.proofs.IndexLemmas.{led_at}
use Rattle.triple_store.proofs.RangeLemmas.{is_between}
use Rattle.triple_store.specs.inner.Arrangement.{triple_at}
use Rattle.triple_store.proofs.index.Index.triples_under.Goals as goal

pub returns : goal.returns
returns c =
    let a = c.self.inside.arrangement in
    let entries = c.self.inside.entries.keys in
    let low = c.new.ensures.start ∙ c.new-low.ensures in
    let high = c.new.ensures.end ∙ c.new-high.ensures in
    let ranged =
    c.range.ensures.between (search rules) ∙ (λ i. filter (is_between (low i) (high i)) entries) in
    let found =
    items_from_collect c.collect.result c.collect.ensures.ran
    (YieldsList-from_map _ (triple_at a) (YieldsList-at c.map.ensures.source (YieldsList-from_rest _ ranged))
    c.map.ensures.closure (λ x r q k. search rules)) in
    rw (← c.self.view_is)
    (subst (λ all. IfOk c.collect.result (λ found. found.items ≡ all))
    (led_at a entries c.args.first c.self.invariant) found)
