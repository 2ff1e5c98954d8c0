use Rattle.std.proofs.Common.{◌∙◌}
use Rattle.ttl_meaning.specs.Terms.{prefix_of}
use Rattle.ttl_meaning.proofs.ItemLemmas.{item_kept, kept_held}
use Rattle.ttl_meaning.proofs.reader_state.ReaderState.hold_prefix.Goals as goal

pub returns : goal.returns
returns c = λ pool.
    let text = prefix_of c.args.text.now c.args.token.now in
    item_kept (λ s. record s { held = text }) _ pool _ _ c.if-is_some.ensures
    (kept_held text c.in_ok-self.field-0 c.args.self.now pool
    (c.in_ok-self.ensures.ok ∙ c.prefix_text.ensures))
