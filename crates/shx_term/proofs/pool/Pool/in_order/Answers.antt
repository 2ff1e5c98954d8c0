use Rattle.std.proofs.Common.{rules, ◌∙◌, arith}
use Rattle.std.specs.Cmp.{nat_eq_equiv}
use Rattle.std.proofs.lemmas.Bool.{eqb-true}
use Rattle.std.proofs.lemmas.Fn.{always_returns_same}
use Rattle.std.proofs.lemmas.List.Filters.{dedup_is}
use Rattle.std.proofs.lemmas.List.MinMax.{ranks_by}
use Rattle.shx_term.specs.IdOrder.{id_cmp}
use Rattle.shx_term.proofs.IdOrderLemmas.{id_cmp_total, id_order}
use Rattle.shx_term.proofs.InOrderLemmas.{few_in_order}
use Rattle.shx_term.proofs.SortLemmas.{dedup_in_order}
use Rattle.shx_term.proofs.pool.Pool.in_order.Goals as goal

pub returns-then-len-lt2 : goal.returns-then-len-lt2
returns-then-len-lt2 c =
    let terms = c.args.self.now.terms in
    few_in_order (id_cmp terms) (id_order terms) c.args.ids.items (omega arith)

pub returns : goal.returns
returns c =
    let terms = c.args.self.now.terms in
    let call = c.sort_unstable_by in
    let sorted =
    call.ensures.sorted _ (ranks_by (id_cmp_total terms) (λ a. a))
    (always_returns_same _ _ _ (λ a r g k. search rules)) in
    dedup_is _ _ _ c.dedup.ensures.filtered
    ∙ dedup_in_order (id_cmp terms) (id_order terms) _ nat_eq_equiv eqb-true
    c.args.ids.items call.new.self.items call.ensures.permutation sorted
