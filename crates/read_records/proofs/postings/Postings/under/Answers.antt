use Rattle.std.specs.BTreeMap.Range.{range_contains}
use Rattle.std.specs.Prelude.{filter}
use Rattle.std.specs.declared.ops.Bound.TheVariants.{Included}
use Rattle.std.proofs.Common.{◌∙◌, rules}
use Rattle.std.proofs.lemmas.Iterator.{YieldsList-from_map, items_from_collect}
use Rattle.std.proofs.lemmas.Iterator.Consumers.{YieldsList-at, YieldsList-from_rest}
use Rattle.read_records.proofs.RangeLemmas.{IfOk-under}
use Rattle.read_records.specs.declared.posting.Posting.{Posting}
use Rattle.read_records.specs.inner.Postings.{posting_cmp}
use Rattle.read_records.proofs.postings.Postings.under.Goals as goal

pub returns : goal.returns
returns c =
    let all = c.self.inside.all.keys in
    let low = c.new.ensures.start ∙ c.new-least.ensures.posting in
    let high = c.new.ensures.end ∙ c.new-greatest.ensures.posting in
    let ranged =
    c.range.ensures.between (search rules)
    ∙ (λ i. filter (range_contains posting_cmp (Included (low i)) (Included (high i))) all) in
    rw (← c.self.view_is)
    (IfOk-under c.collect.result c.args.place all c.self.invariant
    (items_from_collect c.collect.result c.collect.ensures.ran
    (YieldsList-from_map _ (λ (x : Posting). x.whom)
    (YieldsList-at c.map.ensures.source (YieldsList-from_rest _ ranged))
    c.map.ensures.closure (λ x r q k. search rules))))
