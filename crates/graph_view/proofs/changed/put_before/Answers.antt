use Rattle.std.proofs.Common.{rules}
use Rattle.std.proofs.lemmas.Fn.{always_returns_same}
use Rattle.graph_view.proofs.SortedLemmas.{puts_found, puts_new}
use Rattle.graph_view.proofs.changed.put_before.Goals as goal

pub returns-in-Ok : goal.returns-in-Ok
returns-in-Ok g c =
    let terms = c.args.pool.now.terms in
    let cmp = g.T.Found.order terms in
    let by = c.in-Ok.ensures.position (λ y. cmp y c.args.x)
    (always_returns_same _ _ _ (λ a r f called. search rules)) in
    puts_found cmp (g.T.Found.exact terms) c.args.rest.now c.requires.sorted c.args.x c.in-Ok.field-0
    c.in-Ok.ensures.bound by c.args.all.now.items

pub returns-in_ok-push-in-Err : goal.returns-in_ok-push-in-Err
returns-in_ok-push-in-Err g c =
    let terms = c.args.pool.now.terms in
    let cmp = g.T.Found.order terms in
    let by = c.in-Err.ensures.position (λ y. cmp y c.args.x)
    (always_returns_same _ _ _ (λ a r f called. search rules)) in
    let puts = puts_new cmp (g.T.Found.exact terms) c.args.rest.now c.requires.sorted c.args.x c.in-Err.place
    c.in-Err.ensures.bound by c.args.all.now.items in
    search rules
