use Rattle.std.specs.Prelude.{◌≡◌, map, filter, IfOk}
use Rattle.std.proofs.Common.{◌∙◌, ap, subst, rules}
use Rattle.triple_store.proofs.IndexLemmas.{thirds_at}
use Rattle.triple_store.proofs.RangeLemmas.{is_between}
use Rattle.triple_store.specs.declared.arrangement.Entry.{Entry}
use Rattle.triple_store.proofs.index.Index.thirds_under.Goals as goal

pub returns : goal.returns
returns c =
    let entries = c.self.inside.entries.keys in
    let third = λ (e : Entry). e.third in
    let low = c.new.ensures.start ∙ c.new-low.ensures in
    let high = c.new.ensures.end ∙ c.new-high.ensures in
    let ranged =
    c.range.ensures.between (search rules) ∙ (λ i. filter (is_between (low i) (high i)) entries) in
    let found : IfOk c.collect.result (λ found. found.items ≡ map third c.range.result) = search rules in
    rw (← c.self.view_is)
    (subst (λ all. IfOk c.collect.result (λ found. found.items ≡ all))
    (ap (map third) ranged
    ∙ thirds_at c.self.inside.arrangement entries c.args.first c.args.second c.self.invariant) found)
