use Rattle.std.specs.Prelude.{◌≡◌, ◌≤◌, false, nat_lt, length, nat_eq}
use Rattle.std.specs.List.{list_any}
use Rattle.std.proofs.Common.{sym, ap, ◌∙◌, rules}
use Rattle.std.proofs.lemmas.List.{get_or_past, get_or_read_under}
use Rattle.shape_order.proofs.ListedLemmas.{told_is}
use Rattle.shape_order.proofs.listed.Listed.holds.Goals as goal

pub returns-then-at-len-clause-held : goal.returns-then-at-len-clause-held
returns-then-at-len-clause-held c = told_is c.args.self.now c.args.shape c.index.result.now
    (get_or_read_under c.self.inside.held.items c.args.shape c.len.result c.index.result.now false
    c.index.ensures c.if-at-len.true (search rules)
    ∙ c.self.invariant.told c.args.shape ∙ ap (list_any (nat_eq c.args.shape)) c.self.view_is)

pub returns-else-at-len-clause-held : goal.returns-else-at-len-clause-held
returns-else-at-len-clause-held c = told_is c.args.self.now c.args.shape (nat_lt c.args.shape c.len.result)
    (let past : nat_lt c.args.shape c.len.result ≡ false = search rules in
    let far : length c.self.inside.held.items ≤ c.args.shape = search rules in
    past ∙ sym (get_or_past c.self.inside.held.items c.args.shape false far)
    ∙ c.self.invariant.told c.args.shape ∙ ap (list_any (nat_eq c.args.shape)) c.self.view_is)
