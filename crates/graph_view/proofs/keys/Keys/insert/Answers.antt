use Rattle.std.proofs.Common.{sym, subst, ◌∙◌, true≢false}
use Rattle.std.specs.List.{IsDistinct}
use Rattle.shx_term.proofs.SetLemmas.{Adds-insert}
use Rattle.graph_view.specs.Key.{same_key}
use Rattle.graph_view.specs.inner.KeyLaws.{same_key_equiv, same_key_exact}
use Rattle.graph_view.specs.inner.HeldKeys.{held_keys}
use Rattle.graph_view.proofs.KeySetLemmas.{IsDistinct-push}
use Rattle.graph_view.proofs.keys.Keys.insert.Goals as goal

pub returns-then-len-lt-FEW-clause-distinct : goal.returns-then-len-lt-FEW-clause-distinct
returns-then-len-lt-FEW-clause-distinct c =
    let keys = c.in-Few.keys.items in
    let distinct = subst (λ held. IsDistinct same_key (held_keys held)) c.in-Few.is c.requires.distinct in
    rw c.in_ok-push-in-Few.ensures.items (IsDistinct-push keys c.args.key distinct
    (λ d. true≢false (sym (c.is_listed.ensures.1 (rw c.deref.ensures.value d)) ∙ c.if-is_listed.false)))

pub returns-in_ok-insert-in-Many-clause-added : goal.returns-in_ok-insert-in-Many-clause-added
returns-in_ok-insert-in-Many-clause-added c =
    rw (c.in_ok-insert-in-Many.ensures.keys, c.deref_mut.ensures.value, c.in-Many.is)
    (Adds-insert same_key same_key_equiv same_key_exact c.in-Many.keys.value.keys c.args.key)
