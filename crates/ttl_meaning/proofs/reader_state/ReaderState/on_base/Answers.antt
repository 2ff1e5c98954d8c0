use Rattle.ttl_meaning.specs.Items.{set_base, used_or_blamed}
use Rattle.ttl_meaning.specs.Terms.{said, iri_of_reference}
use Rattle.ttl_meaning.proofs.ItemLemmas.{item_kept, kept_where_found, kept_base}
use Rattle.ttl_meaning.proofs.reader_state.ReaderState.on_base.Goals as goal

pub returns-in-Ok : goal.returns-in-Ok
returns-in-Ok c = λ pool.
    let text = said c.args.text.now c.args.token.now in
    let at = c.args.token.now.start in
    item_kept (λ s. used_or_blamed set_base at (iri_of_reference s.base text) s) _ pool _ _
    c.if-is_some.ensures
    (kept_where_found (λ s. iri_of_reference s.base text) set_base at c.in-Ok.iri _ _ _ _
    c.in-Ok.ensures.found
    (kept_base c.in-Ok.iri c.new.result _ _ c.new.ensures))
