use Rattle.std.proofs.Common.{rules, ◌∙◌, arith}
use Rattle.std.proofs.lemmas.Fn.{always_returns_same}
use Rattle.std.proofs.lemmas.List.Filters.{dedup_is}
use Rattle.std.proofs.lemmas.List.MinMax.{ranks_by}
use Rattle.shx_term.specs.inner.TripleLaws.{same_triple_equiv, same_triple_exact}
use Rattle.shx_term.specs.TripleOrder.{triple_cmp}
use Rattle.shx_term.proofs.TripleOrderLemmas.{triple_cmp_total, triple_order}
use Rattle.shx_term.proofs.InOrderLemmas.{few_in_order}
use Rattle.shx_term.proofs.SortLemmas.{dedup_in_order}
use Rattle.shx_term.proofs.pool.Pool.triples_in_order.Goals as goal

pub returns-then-len-lt2 : goal.returns-then-len-lt2
returns-then-len-lt2 c =
    let terms = c.args.self.now.terms in
    few_in_order (triple_cmp terms) (triple_order terms) c.args.triples.items (omega arith)

pub returns : goal.returns
returns c =
    let terms = c.args.self.now.terms in
    let call = c.sort_unstable_by in
    let sorted =
    call.ensures.sorted _ (ranks_by (triple_cmp_total terms) (λ a. a))
    (always_returns_same _ _ _ (λ a r g k. search rules)) in
    dedup_is _ _ _ c.dedup.ensures.filtered
    ∙ dedup_in_order (triple_cmp terms) (triple_order terms) _ same_triple_equiv same_triple_exact
    c.args.triples.items call.new.self.items call.ensures.permutation sorted
