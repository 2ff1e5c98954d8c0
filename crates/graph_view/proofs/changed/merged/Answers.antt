use Rattle.std.proofs.Common.{◌≡◌, length, rules}
use Rattle.std.specs.Prelude.{true, ◌==◌}
use Rattle.shx_term.proofs.InOrderLemmas.{in_order_lists}
use Rattle.graph_view.proofs.LookUpLemmas.{IfOk-gives}
use Rattle.graph_view.proofs.SortedLemmas.{in_order_empty, merge_starts}
use Rattle.graph_view.proofs.changed.merged.Goals as goal

pub returns-then-is_empty : goal.returns-then-is_empty
returns-then-is_empty g c =
    let terms = c.args.pool.now.terms in
    let none : (length c.args.new.items == 0) ≡ true = search rules in
    in_order_empty (g.T.Found.order terms) (g.T.Found.exact terms) c.args.found.items c.args.new.items
    c.requires.sorted none

pub both-requires : goal.both-requires
both-requires g c =
    let terms = c.args.pool.now.terms in
    let cmp = g.T.Found.order terms in
    record {
      found = rw c.deref.ensures.value c.requires.sorted;
      new = rw (c.deref-2.ensures.value, c.ascending-ascending.ensures)
          ((in_order_lists cmp (g.T.Found.exact terms) c.args.new.items).sorted);
    }

pub returns : goal.returns
returns g c =
    let terms = c.args.pool.now.terms in
    IfOk-gives c.both.result (λ all. all.items) c.both.ensures
    (rw (c.deref.ensures.value, c.deref-2.ensures.value)
    (merge_starts (g.T.Found.order terms) (g.T.Found.exact terms) c.args.found.items c.args.new.items
    c.ascending-ascending.result.items c.ascending-ascending.ensures))
