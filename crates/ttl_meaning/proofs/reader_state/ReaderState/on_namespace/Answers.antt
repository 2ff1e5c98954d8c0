use Rattle.std.proofs.lemmas.Result.{on_ok_weaker}
use Rattle.ttl_meaning.specs.Items.{bind, used_or_blamed}
use Rattle.ttl_meaning.specs.Terms.{said, iri_of_reference}
use Rattle.ttl_meaning.proofs.ItemLemmas.{item_kept, kept_where_found}
use Rattle.ttl_meaning.proofs.reader_state.ReaderState.on_namespace.Goals as goal

pub returns-in-Ok : goal.returns-in-Ok
returns-in-Ok c = λ pool.
    let text = said c.args.text.now c.args.token.now in
    let at = c.args.token.now.start in
    on_ok_weaker _
    (item_kept (λ s. used_or_blamed bind at (iri_of_reference s.base text) s) _ pool _ _ c.if-is_some.ensures)
    (on_ok_weaker _
    (kept_where_found (λ s. iri_of_reference s.base text) bind at c.in-Ok.iri _ _ _ _ c.in-Ok.ensures.found)
    (c.bind.ensures pool))
