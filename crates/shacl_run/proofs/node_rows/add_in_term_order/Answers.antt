use Rattle.std.specs.Prelude.{◌++◌, flat_map}
use Rattle.std.specs.Ordering.{is_lt}
use Rattle.std.proofs.Common.{List, rules, sym, ap, ◌∙◌}
use Rattle.std.proofs.lemmas.Fn.{always_returns_same}
use Rattle.std.proofs.lemmas.Iterator.Adapters.{YieldsList-from_vec}
use Rattle.std.proofs.lemmas.Iterator.Consumers.{YieldsList-end}
use Rattle.std.proofs.lemmas.List.{map-id}
use Rattle.std.proofs.lemmas.List.MinMax.{ranks_by}
use Rattle.shx_term.specs.IdOrder.{id_cmp}
use Rattle.shx_term.proofs.IdOrderLemmas.{id_cmp_total}
use Rattle.shacl_run.specs.declared.node_rows.NodeRows.{NodeRows}
use Rattle.shacl_run.proofs.NodeRowLemmas.{rows_in_term_order}
use Rattle.shacl_run.proofs.node_rows.add_in_term_order.Goals as goal

pub returns : goal.returns
returns c = λ f nodes ascend are.
    let terms = c.args.pool.now.terms in
    let call = c.sort_unstable_by in
    let sorted = call.new.self.items in
    let ordered = call.ensures.sorted (λ (a b : NodeRows). is_lt (id_cmp terms a.node b.node))
    (ranks_by (id_cmp_total terms) (λ at. at.node))
    (always_returns_same _ _ _ (λ a r g k. search rules)) in
    let gives = c.into_iter-at-iterator.ensures.into_iter_gives in
    let all = YieldsList-end (YieldsList-from_vec sorted gives.0 (search rules)) c.loop-at.yielded
    c.loop-at.at-iterator c.loop-at.yielded_by c.next.result c.next.new.self c.in-None.is
    c.next.ensures.steps in
    c.loop-at.invariant
    ∙ ap (λ (ats : List NodeRows). c.args.rows.now.items ++ flat_map (λ at. at.rows.items) ats)
    (sym (map-id c.loop-at.yielded) ∙ all.0)
    ∙ ap (λ rows. c.args.rows.now.items ++ rows)
    (rows_in_term_order f terms nodes ascend c.args.found.items sorted are call.ensures.permutation ordered)
