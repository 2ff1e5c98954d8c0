use Rattle.std.proofs.Common.{sym, subst}
use Rattle.std.proofs.lemmas.List.Elements.{AllWithin-more}
use Rattle.std.proofs.lemmas.Option.{get_or_from_slice_get}
use Rattle.shx_term.specs.ValidTriples.{IsNotWide}
use Rattle.due_view.proofs.valid.is_none_wide.Goals as goal

pub loop-id-preserved : goal.loop-id-preserved
loop-id-preserved c =
    let terms = c.args.pool.now.terms in
    let id = c.loop-id.id in
    let narrow = c.is_not_wide.ensures c.if-not-is_not_wide.false in
    AllWithin-more IsNotWide terms 0 id c.loop-id.invariant
    (λ d. subst IsNotWide (sym (get_or_from_slice_get terms id _ d c.term.ensures)) narrow)
