use Rattle.std.specs.Prelude.{filter}
use Rattle.std.proofs.Common.{◌∙◌, rules}
use Rattle.std.proofs.lemmas.Iterator.{YieldsList-from_take}
use Rattle.std.proofs.lemmas.Iterator.Consumers.{YieldsList-at, YieldsList-from_rest, count_from_yields_List}
use Rattle.triple_store.proofs.IndexLemmas.{taken_count, led_at}
use Rattle.triple_store.proofs.RangeLemmas.{is_between}
use Rattle.triple_store.specs.inner.Arrangement.{triple_at}
use Rattle.triple_store.proofs.index.Index.count_under.Goals as goal

pub returns : goal.returns
returns c =
    let a = c.self.inside.arrangement in
    let entries = c.self.inside.entries.keys in
    let low = c.new.ensures.start ∙ c.new-low.ensures in
    let high = c.new.ensures.end ∙ c.new-high.ensures in
    let ranged =
    c.range.ensures.between (search rules) ∙ (λ i. filter (is_between (low i) (high i)) entries) in
    let counted =
    count_from_yields_List c.take.result c.count.result c.count.ensures.ran
    (YieldsList-from_take c.args.most (YieldsList-at c.take.ensures.source (YieldsList-from_rest _ ranged))
    c.take.ensures.count) in
    rw (← c.self.view_is)
    (taken_count (triple_at a) _ _ c.args.most c.count.result counted
    (led_at a entries c.args.first c.self.invariant))
